-- `eigen_rotations::diagonal::off_diagonal` meets its contract. After i turns the first i rows are added.
use Rattle.lists.proofs.Base.{◌≡◌, ap, ◌∙◌, List, arith, Float}
use Rattle.lists.specs.{Sums.sum_from, Rows.row}
use Rattle.lists.proofs.{Rows.row-end, Rows.part-row, Sums.sum-rows-none, Sums.sum-rows-next}
use Rattle.eigen_rotations.specs.Sweeps.{squares_but, off_diagonal}
use Rattle.eigen_rotations.proofs.diagonal.off_diagonal.Goals as goal

pub loop-i-init : goal.loop-i-init
loop-i-init c = sum-rows-none _ _

pub slice_bounds-off_in_row-end : goal.slice_bounds-off_in_row-end
slice_bounds-off_in_row-end c = omega (arith, row-end c.args.n _ _ c.loop-i-test.true)

pub loop-i-preserved : goal.loop-i-preserved
loop-i-preserved c =
    let at = c.loop-i in
    sum-rows-next _ (λ k. squares_but k (row c.args.n k c.args.m.now)) at.i at.invariant
    (c.off_in_row-t.ensures ∙ ap (λ (l : List Float). sum_from at.t (squares_but at.i l)) (part-row _ _ _))

pub returns : goal.returns
unfolding off_diagonal
returns c = let all : c.loop-i.i ≡ c.args.n = omega arith in rw all at c.loop-i.invariant
