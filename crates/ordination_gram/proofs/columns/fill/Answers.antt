-- `ordination_gram::columns::fill` meets its contract: after i turns the first i rows are written.
use Rattle.lists.proofs.Base.{◌≡◌, refl, sym, ap, ◌∙◌, subst, ℕ, ◌+◌, ◌-◌, ◌*◌, ◌≤◌, arith, length, nan}
use borrow.Rule.Slice.PartMut.{same_len_mid}
use Rattle.lists.specs.{Ranges.rows, Ranges.grid, Writes.over}
use Rattle.lists.proofs.Rows.{row-end, length_part}
use Rattle.ordination_gram.specs.inner.Columns.{entry_at}
use Rattle.ordination_gram.proofs.MirroredRows.{full, row-filled}
use Rattle.ordination_gram.proofs.columns.fill.Goals as goal
use Rattle.ordination_gram.proofs.columns.fill.Goals.{After-mirror_row}

-- row i lies within the matrix
fits : (c : After-mirror_row) → let a = c.args in c.loop-i.i * a.n + a.n ≤ length c.mirror_row.new.out
fits c =
    let a = c.args in
    omega (arith, row-end a.n c.loop-i.i a.n (omega arith), c.mirror_row.auto.out)

pub loop-i-init : goal.loop-i-init
unfolding over rows
loop-i-init c = (omega arith, refl, refl)

pub mirror_row-requires : goal.mirror_row-requires
mirror_row-requires c = (omega arith, omega arith)

pub overflow_mul-i : goal.overflow_mul-i
overflow_mul-i c = omega (arith, fits (goal.at.overflow_mul-i c).After-mirror_row)

pub overflow_mul-i-in-loop-i : goal.overflow_mul-i-in-loop-i
overflow_mul-i-in-loop-i c = omega (arith, fits (goal.at.overflow_mul-i-in-loop-i c).After-mirror_row)

pub overflow_add-i : goal.overflow_add-i
overflow_add-i c = omega (arith, fits (goal.at.overflow_add-i c).After-mirror_row)

pub offset_bounds-out-i : goal.offset_bounds-out-i
offset_bounds-out-i c = omega (arith, fits (goal.at.offset_bounds-out-i c).After-mirror_row)

pub slice_bounds-fill_row-count : goal.slice_bounds-fill_row-count
slice_bounds-fill_row-count c = omega (arith, fits (goal.at.slice_bounds-fill_row-count c).After-mirror_row)

pub slice_bounds-fill_row-start : goal.slice_bounds-fill_row-start
slice_bounds-fill_row-start c = omega (arith, fits (goal.at.slice_bounds-fill_row-start c).After-mirror_row)

pub slice_bounds-fill_row-end : goal.slice_bounds-fill_row-end
slice_bounds-fill_row-end c = omega (arith, fits (goal.at.slice_bounds-fill_row-end c).After-mirror_row)

pub fill_row-requires : goal.fill_row-requires
fill_row-requires c =
    let a = c.args in
    let long = length_part a.n c.loop-i.i c.mirror_row.new.out (fits (goal.at.fill_row-requires c).After-mirror_row) in
    (omega arith, subst (λ (k : ℕ). k * a.w ≤ length a.words.now) (sym long) c.requires.1, omega arith, omega arith)

pub loop-i-preserved : goal.loop-i-preserved
loop-i-preserved c =
    let a = c.args in
    let here = c.loop-i in
    let m = c.mirror_row in
    let call = c.fill_row in (
      omega arith,
      same_len_mid (here.i * a.n) (here.i * a.n + a.n - here.i * a.n) m.new.out call.new.row call.auto.row ∙ m.auto.out ∙ here.invariant.1,
      row-filled (entry_at a.w a.words.now a.sums.now a.t) nan a.n a.out.now here.i (omega arith) (omega arith) here.invariant.2 m.ensures call.ensures,
    )

pub shape_of-out : goal.shape_of-out
shape_of-out c = c.loop-i.invariant.1

pub returns : goal.returns
unfolding grid
returns c =
    let a = c.args in
    let done : c.loop-i.i ≡ a.n = omega arith in
    c.loop-i.invariant.2 ∙ ap (λ (k : ℕ). over (rows k (full (entry_at a.w a.words.now a.sums.now a.t) nan a.n)) a.out.now) done
