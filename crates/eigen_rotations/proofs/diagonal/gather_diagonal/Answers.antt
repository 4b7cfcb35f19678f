-- `eigen_rotations::diagonal::gather_diagonal` meets its contract. After i turns the first i entries are written.
use Rattle.lists.proofs.Base.{refl, ap, ◌∙◌, ℕ, arith}
use Rattle.lists.specs.{Ranges.table, Rows.entry}
use Rattle.lists.proofs.{Writes.writing-none, Writes.writing-next, Writes.writing-all}
use Rattle.eigen_rotations.specs.Diagonal.{diagonal}
use Rattle.eigen_rotations.proofs.diagonal.gather_diagonal.Goals as goal

pub loop-i-init : goal.loop-i-init
loop-i-init c = writing-none _ _

pub loop-i-preserved : goal.loop-i-preserved
unfolding entry
loop-i-preserved c = writing-next (λ k. entry c.args.n c.args.m.now k k) _ c.loop-i.invariant (omega arith) refl

pub returns : goal.returns
unfolding diagonal
returns c =
    let a = c.args in
    writing-all _ _ c.loop-i.invariant (omega arith) ∙ ap (λ (k : ℕ). table k (λ i. entry a.n a.m.now i i)) c.requires.0
