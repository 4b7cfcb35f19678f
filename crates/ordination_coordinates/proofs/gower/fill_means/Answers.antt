-- `ordination_coordinates::gower::fill_means` meets its contract. After i turns the first i means stand there.
use Rattle.lists.proofs.Base.{◌≡◌, ◌*◌, ◌+◌, ◌≤◌, ap, ◌∙◌, arith, length}
use Rattle.lists.proofs.{Rows.row-end, Rows.part-row, Writes.writing-none, Writes.writing-next, Writes.writing-table}
use Rattle.ordination_coordinates.specs.Centred.{mean, row_means}
use Rattle.ordination_coordinates.proofs.gower.fill_means.Goals as goal
use Rattle.ordination_coordinates.proofs.gower.fill_means.Goals.{In-loop-i}

-- row i lies within the squares
row_fits : (c : In-loop-i) → let a = c.args in let n = a.n in (c.loop-i.i * n + n ≤ length a.s.now) × (length c.loop-i.out ≡ n)
row_fits c = (omega (arith, row-end c.args.n _ _ c.loop-i-test.true), omega (arith, c.loop-i.invariant.long))

pub loop-i-init : goal.loop-i-init
loop-i-init c = writing-none _ _

pub overflow_mul-i : goal.overflow_mul-i
overflow_mul-i c = omega (arith, row_fits (goal.at.overflow_mul-i c).In-loop-i)

pub overflow_mul-i-in-loop-i : goal.overflow_mul-i-in-loop-i
overflow_mul-i-in-loop-i c = omega (arith, row_fits (goal.at.overflow_mul-i-in-loop-i c).In-loop-i)

pub overflow_add-i : goal.overflow_add-i
overflow_add-i c = omega (arith, row_fits (goal.at.overflow_add-i c).In-loop-i)

pub offset_bounds-s-i : goal.offset_bounds-s-i
offset_bounds-s-i c = omega (arith, row_fits (goal.at.offset_bounds-s-i c).In-loop-i)

pub slice_bounds-mean-count : goal.slice_bounds-mean-count
slice_bounds-mean-count c = omega (arith, row_fits (goal.at.slice_bounds-mean-count c).In-loop-i)

pub slice_bounds-mean-start : goal.slice_bounds-mean-start
slice_bounds-mean-start c = omega (arith, row_fits (goal.at.slice_bounds-mean-start c).In-loop-i)

pub slice_bounds-mean-end : goal.slice_bounds-mean-end
slice_bounds-mean-end c = omega (arith, row_fits (goal.at.slice_bounds-mean-end c).In-loop-i)

pub mean-requires : goal.mean-requires
mean-requires c = c.requires.2

pub offset_bounds-out-i : goal.offset_bounds-out-i
offset_bounds-out-i c = omega (arith, row_fits (goal.at.offset_bounds-out-i c).In-loop-i)

pub bounds-out-i : goal.bounds-out-i
bounds-out-i c = omega (arith, row_fits (goal.at.bounds-out-i c).In-loop-i)

pub loop-i-preserved : goal.loop-i-preserved
loop-i-preserved c =
    let a = c.args in
    writing-next _ _ c.loop-i.invariant (omega arith) (c.mean.ensures ∙ ap (mean a.n) (part-row a.n c.loop-i.i a.s.now))

pub shape_of-out : goal.shape_of-out
shape_of-out c = c.loop-i.invariant.long

pub returns : goal.returns
unfolding row_means
returns c = writing-table _ _ c.loop-i.invariant c.requires.0 c.loop-i-test.false
