-- `eigen_rotations::rotate_columns` meets its contract. After i turns the first i rows are done; row i is lent as its own part.
use Rattle.lists.proofs.Base.{◌≡◌, ◌+◌, ◌*◌, ◌≤◌, arith, length}
use Rattle.lists.proofs.{Loops.in_turn-none, Loops.in_turn-next, Rows.row-end, Rows.row-lent, Rows.length_part}
use Rattle.eigen_rotations.specs.Rotation.{turn_columns}
use Rattle.eigen_rotations.proofs.rotate_columns.Goals as goal
use Rattle.eigen_rotations.proofs.rotate_columns.Goals.{In-loop-i}

within : (c : In-loop-i) → c.loop-i.i * c.args.n + c.args.n ≤ length c.loop-i.m
within c = omega (arith, row-end c.args.n _ _ c.loop-i-test.true)

pub loop-i-init : goal.loop-i-init
loop-i-init c = in_turn-none _ _

pub slice_bounds-rotate_in_row-end : goal.slice_bounds-rotate_in_row-end
slice_bounds-rotate_in_row-end c = omega (arith, within c)

pub rotate_in_row-requires : goal.rotate_in_row-requires
rotate_in_row-requires c =
    let long = length_part c.args.n c.loop-i.i c.loop-i.m (within (goal.at.rotate_in_row-requires c).In-loop-i) in
    omega arith

pub loop-i-preserved : goal.loop-i-preserved
loop-i-preserved c = in_turn-next _ _ _ c.loop-i.invariant (row-lent _ _ _ _ c.rotate_in_row.ensures)

pub returns : goal.returns
unfolding turn_columns
returns c = let all : c.loop-i.i ≡ c.args.n = omega arith in rw all at c.loop-i.invariant
