-- `eigen_matrix::square::even_row` meets its contract. The pairs of row i up to column j are evened.
use Rattle.lists.proofs.Base.{◌≡◌, arith}
use Rattle.lists.proofs.{Rows.cell_below, Loops.from_to-none, Loops.from_to-next}
use Rattle.eigen_matrix.specs.inner.Symmetric.{evened_row}
use Rattle.eigen_matrix.proofs.square.even_row.Goals as goal

pub loop-j-init : goal.loop-j-init
loop-j-init c = from_to-none _ _ _

pub even-requires : goal.even-requires
even-requires c =
    let p = c.args.p in
    let i = c.args.i in
    let j = c.loop-j.j in
    let here = c.requires.1 in
    let there = c.loop-j-test.true in
    (omega (arith, cell_below p p i j here there), omega (arith, cell_below p p j i there here))

pub loop-j-preserved : goal.loop-j-preserved
loop-j-preserved c = from_to-next _ _ _ _ (omega arith) c.loop-j.invariant c.even.ensures

pub returns : goal.returns
unfolding evened_row
returns c = let e : c.loop-j.j ≡ c.args.p = omega arith in rw e at c.loop-j.invariant
