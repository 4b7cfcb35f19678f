-- `eigen_block::update_ritz_values` meets its contract. The invariant: j Ritz values are found and held against those before.
use Rattle.lists.proofs.Base.{ap, ℕ, ◌&&◌, Bool, arith, length, Float}
use Rattle.lists.specs.Rows.{row}
use Rattle.lists.proofs.{Rows.row-end, Writes.writing-all}
use Rattle.eigen_vectors.specs.Vectors.{dot}
use Rattle.eigen_block.specs.Rounds.{ritz}
use Rattle.eigen_block.proofs.Converging.{settling-none, settling-next, settling-all}
use Rattle.eigen_block.proofs.update_ritz_values.Goals as goal

pub loop-j-init : goal.loop-j-init
loop-j-init c = let a = c.args in settling-none (λ j. dot (row a.n j (a.q.now)) (row a.n j (a.aq.now))) (a.before.now)

pub dot_rows-r-requires : goal.dot_rows-r-requires
dot_rows-r-requires c = let e = row-end c.args.n c.loop-j.j (length (c.args.before.now)) c.loop-j-test.true in omega (arith, e, c.requires)

pub loop-j-preserved : goal.loop-j-preserved
loop-j-preserved c =
    let a = c.args in
    settling-next (λ j. dot (row a.n j (a.q.now)) (row a.n j (a.aq.now))) (a.before.now) c.loop-j.invariant
    (omega arith) c.dot_rows-r.ensures (ap (λ (b : Bool). c.loop-j.settled && b) c.has_settled-settled.ensures)

pub returns : goal.returns
unfolding ritz
returns c =
    let a = c.args in
    let f : ℕ → Float = λ j. dot (row a.n j (a.q.now)) (row a.n j (a.aq.now)) in
    (writing-all f (a.before.now) c.loop-j.invariant.written (omega arith), settling-all f (a.before.now) c.loop-j.invariant (omega arith))
