-- `ordination_coordinates::fill_coords` meets its contract. After i turns the first i samples stand there.
use Rattle.lists.proofs.Base.{◌≡◌, ◌+◌, ◌≤◌, ℕ, ◌*◌, ◌-◌, sym, ap, ◌∙◌, arith, length, take, drop}
use Rattle.lists.specs.Ranges.{table, grid}
use Rattle.lists.proofs.{Ranges.length-table, Rows.row-end, Rows.length_part}
use Rattle.lists.proofs.Writes.{filling-none, filling-next, filling-all}
use Rattle.ordination_coordinates.specs.Finish.{coord_at, coords}
use Rattle.ordination_coordinates.proofs.fill_coords.Goals as goal
use Rattle.ordination_coordinates.proofs.fill_coords.Goals.{In-loop-i}

-- row i lies within the output
row_fits : (c : In-loop-i) → let k = c.args.k in (c.loop-i.i * k + k ≤ length c.loop-i.out) × (length c.loop-i.out ≡ length c.args.out.now)
row_fits c =
    let long = c.loop-i.invariant.long in
    (omega (arith, row-end c.args.k _ _ c.loop-i-test.true, long), long)

row-long : (c : In-loop-i) → let k = c.args.k in let i = c.loop-i.i in length (take (i * k + k - i * k) (drop (i * k) c.loop-i.out)) ≡ k
row-long c = length_part c.args.k c.loop-i.i c.loop-i.out (row_fits c).0

pub loop-i-init : goal.loop-i-init
loop-i-init c = filling-none _ _ _ (λ i. length-table _ _) _ c.requires.0

pub overflow_mul-i : goal.overflow_mul-i
overflow_mul-i c = omega (arith, row_fits (goal.at.overflow_mul-i c).In-loop-i)

pub overflow_mul-i-in-loop-i : goal.overflow_mul-i-in-loop-i
overflow_mul-i-in-loop-i c = omega (arith, row_fits (goal.at.overflow_mul-i-in-loop-i c).In-loop-i)

pub overflow_add-i : goal.overflow_add-i
overflow_add-i c = omega (arith, row_fits (goal.at.overflow_add-i c).In-loop-i)

pub offset_bounds-out-i : goal.offset_bounds-out-i
offset_bounds-out-i c = omega (arith, row_fits (goal.at.offset_bounds-out-i c).In-loop-i)

pub slice_bounds-coord_row-count : goal.slice_bounds-coord_row-count
slice_bounds-coord_row-count c = omega (arith, row_fits (goal.at.slice_bounds-coord_row-count c).In-loop-i)

pub slice_bounds-coord_row-start : goal.slice_bounds-coord_row-start
slice_bounds-coord_row-start c = omega (arith, row_fits (goal.at.slice_bounds-coord_row-start c).In-loop-i)

pub slice_bounds-coord_row-end : goal.slice_bounds-coord_row-end
slice_bounds-coord_row-end c = omega (arith, row_fits (goal.at.slice_bounds-coord_row-end c).In-loop-i)

pub coord_row-requires : goal.coord_row-requires
coord_row-requires c =
    let pre = c.requires in
    let long = sym (row-long (goal.at.coord_row-requires c).In-loop-i) in
    (pre.1 ∙ long, pre.2 ∙ long, pre.3 ∙ ap (λ (j : ℕ). j * c.args.n) long, c.loop-i-test.true)

pub loop-i-preserved : goal.loop-i-preserved
loop-i-preserved c =
    let a = c.args in
    filling-next _ _ _ (λ i. length-table _ _) _ c.requires.0 c.loop-i.invariant c.loop-i-test.true
    (c.coord_row.ensures
    ∙ ap (λ (k : ℕ). table k (coord_at a.n a.sg.now a.sc.now a.vectors.now c.loop-i.i)) (row-long (goal.at.loop-i-preserved c).In-loop-i))

pub shape_of-out : goal.shape_of-out
shape_of-out c = c.loop-i.invariant.long

pub returns : goal.returns
unfolding coords grid
returns c = filling-all _ _ _ (λ i. length-table _ _) _ c.requires.0 c.loop-i.invariant c.loop-i-test.false
