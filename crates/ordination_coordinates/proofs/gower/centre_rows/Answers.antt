-- `ordination_coordinates::gower::centre_rows` meets its contract. After i turns the first i rows are centred.
use Rattle.lists.proofs.Base.{◌≡◌, ◌*◌, ◌+◌, ◌≤◌, ◌-◌, sym, ◌∙◌, arith, length, take, drop}
use Rattle.lists.specs.Ranges.{grid}
use Rattle.lists.proofs.{Ranges.length-table, Rows.row-end, Rows.length_part}
use Rattle.lists.proofs.Writes.{filling-none, filling-next, filling-all}
use Rattle.ordination_coordinates.proofs.Grids.{centred-lent}
use Rattle.ordination_coordinates.proofs.gower.centre_rows.Goals as goal
use Rattle.ordination_coordinates.proofs.gower.centre_rows.Goals.{In-loop-i}

-- row i lies within the matrix
row_fits : (c : In-loop-i) → let n = c.args.n in (c.loop-i.i * n + n ≤ length c.loop-i.b) × (length c.loop-i.b ≡ length c.args.b.now)
row_fits c =
    let long = c.loop-i.invariant.long in
    (omega (arith, row-end c.args.n _ _ c.loop-i-test.true, long), long)

row-long : (c : In-loop-i) → let n = c.args.n in let i = c.loop-i.i in length (take (i * n + n - i * n) (drop (i * n) c.loop-i.b)) ≡ n
row-long c = length_part c.args.n c.loop-i.i c.loop-i.b (row_fits c).0

pub loop-i-init : goal.loop-i-init
loop-i-init c = filling-none _ _ _ (λ i. length-table _ _) _ c.requires.0

pub overflow_mul-i : goal.overflow_mul-i
overflow_mul-i c = omega (arith, row_fits (goal.at.overflow_mul-i c).In-loop-i)

pub overflow_mul-i-in-loop-i : goal.overflow_mul-i-in-loop-i
overflow_mul-i-in-loop-i c = omega (arith, row_fits (goal.at.overflow_mul-i-in-loop-i c).In-loop-i)

pub overflow_add-i : goal.overflow_add-i
overflow_add-i c = omega (arith, row_fits (goal.at.overflow_add-i c).In-loop-i)

pub offset_bounds-b-i : goal.offset_bounds-b-i
offset_bounds-b-i c = omega (arith, row_fits (goal.at.offset_bounds-b-i c).In-loop-i)

pub slice_bounds-centre_row-count : goal.slice_bounds-centre_row-count
slice_bounds-centre_row-count c = omega (arith, row_fits (goal.at.slice_bounds-centre_row-count c).In-loop-i)

pub slice_bounds-centre_row-start : goal.slice_bounds-centre_row-start
slice_bounds-centre_row-start c = omega (arith, row_fits (goal.at.slice_bounds-centre_row-start c).In-loop-i)

pub slice_bounds-centre_row-end : goal.slice_bounds-centre_row-end
slice_bounds-centre_row-end c = omega (arith, row_fits (goal.at.slice_bounds-centre_row-end c).In-loop-i)

pub centre_row-requires : goal.centre_row-requires
centre_row-requires c = c.requires.1 ∙ sym (row-long (goal.at.centre_row-requires c).In-loop-i)

pub loop-i-preserved : goal.loop-i-preserved
loop-i-preserved c =
    let inv = c.loop-i.invariant in
    filling-next _ _ _ (λ i. length-table _ _) _ c.requires.0 inv c.loop-i-test.true
    (centred-lent _ _ _ _ inv (row-long (goal.at.loop-i-preserved c).In-loop-i) c.centre_row.ensures)

pub shape_of-b : goal.shape_of-b
shape_of-b c = c.loop-i.invariant.long

pub returns : goal.returns
unfolding grid
returns c = filling-all _ _ _ (λ i. length-table _ _) _ c.requires.0 c.loop-i.invariant c.loop-i-test.false
