-- `eigen_matrix::square::trace` meets its contract. What is left of the sum stays the same.
use Rattle.lists.proofs.Base.{refl, sym, ◌∙◌, arith}
use Rattle.float.specs.Floats.{zero⁻}
use Rattle.lists.specs.{Rows.entry}
use Rattle.lists.proofs.{Sums.sum-turn, Sums.sum-end, Sums.sum-table}
use Rattle.eigen_matrix.specs.Trace.{trace}
use Rattle.eigen_matrix.proofs.square.trace.Goals as goal

pub loop-i-init : goal.loop-i-init
loop-i-init c = (omega arith, refl)

pub loop-i-preserved : goal.loop-i-preserved
unfolding entry
loop-i-preserved c =
    let turn = c.loop-i in
    let args = c.args in
    (omega arith, sum-turn (λ k. entry args.n args.b.now k k) turn.s turn.i args.n c.loop-i-test.true refl refl turn.invariant.1)

pub returns : goal.returns
unfolding trace
returns c =
    sum-end (λ k. entry c.args.n c.args.b.now k k) c.loop-i.s c.loop-i.i c.args.n c.loop-i-test.false
    c.loop-i.invariant.1 ∙ sym (sum-table zero⁻ c.args.n (λ k. entry c.args.n c.args.b.now k k))
