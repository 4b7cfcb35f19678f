-- `ordination_coordinates::coord_row` meets its contract. After c turns the first c components stand there.
use Rattle.lists.proofs.Base.{◌≡◌, ◌*◌, ◌+◌, ◌<◌, refl, arith, length}
use Rattle.lists.specs.Rows.{entry}
use Rattle.lists.proofs.{Rows.cell_below, Writes.writing-none, Writes.writing-next, Writes.writing-all}
use Rattle.ordination_coordinates.specs.Finish.{coord_at}
use Rattle.ordination_coordinates.proofs.coord_row.Goals as goal
use Rattle.ordination_coordinates.proofs.coord_row.Goals.{In-loop-c}

-- entry i of vector c lies within the vectors
cell-fits : (c : In-loop-c) → let a = c.args in (c.loop-c.c * a.n + a.i < length a.vectors.now) × (length c.loop-c.row ≡ length a.row.now)
cell-fits c = (omega (arith, cell_below c.args.n (length c.args.row.now) c.loop-c.c c.args.i c.loop-c-test.true c.requires.3), c.loop-c.invariant.long)

pub loop-c-init : goal.loop-c-init
loop-c-init c = writing-none _ _

pub offset_bounds-sg-c : goal.offset_bounds-sg-c
offset_bounds-sg-c c = omega (arith, cell-fits (goal.at.offset_bounds-sg-c c).In-loop-c)

pub bounds-sg-c : goal.bounds-sg-c
bounds-sg-c c = omega (arith, cell-fits (goal.at.bounds-sg-c c).In-loop-c)

pub overflow_mul-row : goal.overflow_mul-row
overflow_mul-row c = omega (arith, cell-fits (goal.at.overflow_mul-row c).In-loop-c)

pub overflow_add-row : goal.overflow_add-row
overflow_add-row c = omega (arith, cell-fits (goal.at.overflow_add-row c).In-loop-c)

pub offset_bounds-vectors-c : goal.offset_bounds-vectors-c
offset_bounds-vectors-c c = omega (arith, cell-fits (goal.at.offset_bounds-vectors-c c).In-loop-c)

pub bounds-vectors-c : goal.bounds-vectors-c
bounds-vectors-c c = omega (arith, cell-fits (goal.at.bounds-vectors-c c).In-loop-c)

pub offset_bounds-sc-c : goal.offset_bounds-sc-c
offset_bounds-sc-c c = omega (arith, cell-fits (goal.at.offset_bounds-sc-c c).In-loop-c)

pub bounds-sc-c : goal.bounds-sc-c
bounds-sc-c c = omega (arith, cell-fits (goal.at.bounds-sc-c c).In-loop-c)

pub offset_bounds-row-c : goal.offset_bounds-row-c
offset_bounds-row-c c = omega (arith, cell-fits (goal.at.offset_bounds-row-c c).In-loop-c)

pub bounds-row-c : goal.bounds-row-c
bounds-row-c c = omega (arith, cell-fits (goal.at.bounds-row-c c).In-loop-c)

pub loop-c-preserved : goal.loop-c-preserved
unfolding coord_at entry
loop-c-preserved c = writing-next _ _ c.loop-c.invariant c.loop-c-test.true refl

pub shape_of-row : goal.shape_of-row
shape_of-row c = c.loop-c.invariant.long

pub returns : goal.returns
returns c = writing-all _ _ c.loop-c.invariant c.loop-c-test.false
