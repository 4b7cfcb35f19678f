-- `ordination_coordinates::signs::fill_signs` meets its contract. After c turns the first c signs stand there.
use Rattle.lists.proofs.Base.{◌≡◌, ◌*◌, ◌+◌, ◌≤◌, ap, ◌∙◌, arith, length}
use Rattle.lists.proofs.{Rows.row-end, Rows.part-row, Writes.writing-none, Writes.writing-next, Writes.writing-all}
use Rattle.ordination_coordinates.specs.Signs.{orient, signs}
use Rattle.ordination_coordinates.proofs.signs.fill_signs.Goals as goal
use Rattle.ordination_coordinates.proofs.signs.fill_signs.Goals.{In-loop-c}

-- vector c lies within the vectors
row_fits : (c : In-loop-c) → let n = c.args.n in (c.loop-c.c * n + n ≤ length c.args.vectors.now) × (length c.loop-c.out ≡ length c.args.out.now)
row_fits c = (omega (arith, row-end c.args.n _ _ c.loop-c-test.true), c.loop-c.invariant.long)

pub loop-c-init : goal.loop-c-init
loop-c-init c = writing-none _ _

pub overflow_mul-c : goal.overflow_mul-c
overflow_mul-c c = omega (arith, row_fits (goal.at.overflow_mul-c c).In-loop-c)

pub overflow_mul-c-in-loop-c : goal.overflow_mul-c-in-loop-c
overflow_mul-c-in-loop-c c = omega (arith, row_fits (goal.at.overflow_mul-c-in-loop-c c).In-loop-c)

pub overflow_add-c : goal.overflow_add-c
overflow_add-c c = omega (arith, row_fits (goal.at.overflow_add-c c).In-loop-c)

pub offset_bounds-vectors-c : goal.offset_bounds-vectors-c
offset_bounds-vectors-c c = omega (arith, row_fits (goal.at.offset_bounds-vectors-c c).In-loop-c)

pub slice_bounds-orient-count : goal.slice_bounds-orient-count
slice_bounds-orient-count c = omega (arith, row_fits (goal.at.slice_bounds-orient-count c).In-loop-c)

pub slice_bounds-orient-start : goal.slice_bounds-orient-start
slice_bounds-orient-start c = omega (arith, row_fits (goal.at.slice_bounds-orient-start c).In-loop-c)

pub slice_bounds-orient-end : goal.slice_bounds-orient-end
slice_bounds-orient-end c = omega (arith, row_fits (goal.at.slice_bounds-orient-end c).In-loop-c)

pub offset_bounds-out-c : goal.offset_bounds-out-c
offset_bounds-out-c c = omega (arith, row_fits (goal.at.offset_bounds-out-c c).In-loop-c)

pub bounds-out-c : goal.bounds-out-c
bounds-out-c c = omega (arith, row_fits (goal.at.bounds-out-c c).In-loop-c)

pub loop-c-preserved : goal.loop-c-preserved
loop-c-preserved c =
    let a = c.args in
    writing-next _ _ c.loop-c.invariant c.loop-c-test.true (c.orient.ensures ∙ ap orient (part-row a.n c.loop-c.c a.vectors.now))

pub shape_of-out : goal.shape_of-out
shape_of-out c = c.loop-c.invariant.long

pub returns : goal.returns
unfolding signs
returns c = writing-all _ _ c.loop-c.invariant c.loop-c-test.false
