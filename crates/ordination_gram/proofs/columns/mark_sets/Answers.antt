-- `ordination_gram::columns::mark_sets` meets its contract: after i turns the rows and the sums of the first i sets are written.
use Rattle.lists.proofs.Base.{◌≡◌, refl, sym, ap, ◌∙◌, List, map, ℕ, ◌+◌, ◌-◌, ◌*◌, ◌≤◌, arith, length, get_or}
use borrow.Rule.Slice.PartMut.{same_len_mid}
use Rattle.lists.specs.{Ranges.rows, Ranges.table, Writes.over}
use Rattle.lists.proofs.{Rows.row-end, Rows.length_part, Writes.writing-none, Writes.writing-next, Writes.rows_none, Writes.rows_next}
use Rattle.ordination_hashes.specs.inner.Columns.{column_of}
use Rattle.ordination_sets.specs.Sets.{set_at}
use Rattle.ordination_gram.specs.inner.{Bits.packed, Bits.present, Columns.column_sum}
use Rattle.ordination_gram.proofs.{Bits.length-packed, Marks.set-columns, Marks.bits_of, Marks.sum_of}
use Rattle.ordination_gram.proofs.columns.mark_sets.Goals as goal
use Rattle.ordination_gram.proofs.columns.mark_sets.Goals.{In-loop-i}

-- the set lies within the hashes, and its offsets within theirs
inside : (c : In-loop-i) → let a = c.args in let i = c.loop-i.i in
    (get_or a.offsets.now i 0 ≤ get_or a.offsets.now (i + 1) 0) × (get_or a.offsets.now (i + 1) 0 ≤ length a.hashes.now) × (i + 1 ≤ a.n) × (length a.offsets.now ≡ a.n + 1)
inside c =
    let sets = c.requires.0 in
    (sets.climb c.loop-i.i (omega arith), sets.bound c.loop-i.i (omega arith), omega arith, sets.entries)

-- row i lies within the words
fits : (c : In-loop-i) → let a = c.args in c.loop-i.i * a.w + a.w ≤ length c.loop-i.words
fits c = omega (arith, row-end c.args.w c.loop-i.i c.args.n (omega arith), c.requires.1, c.loop-i.invariant.1)

pub loop-i-init : goal.loop-i-init
loop-i-init c =
    let a = c.args in
    let hashes = a.hashes.now in
    let offsets = a.offsets.now in
    let chosen = a.columns.now.hashes.now in
    let means = a.columns.now.means.now in
    (omega arith, refl, rows_none a.w (bits_of hashes offsets a.w chosen means) (λ k. length-packed a.w _) a.words.now, writing-none (sum_of hashes offsets chosen means) a.sums.now)

pub offset_bounds-offsets-i : goal.offset_bounds-offsets-i
offset_bounds-offsets-i c = omega (arith, inside (goal.at.offset_bounds-offsets-i c).In-loop-i)

pub bounds-offsets-i : goal.bounds-offsets-i
bounds-offsets-i c = omega (arith, inside (goal.at.bounds-offsets-i c).In-loop-i)

pub overflow_add-e : goal.overflow_add-e
overflow_add-e c = omega (arith, inside (goal.at.overflow_add-e c).In-loop-i)

pub offset_bounds-offsets-i-in-loop-i : goal.offset_bounds-offsets-i-in-loop-i
offset_bounds-offsets-i-in-loop-i c = omega (arith, inside (goal.at.offset_bounds-offsets-i-in-loop-i c).In-loop-i)

pub bounds-offsets-i-in-loop-i : goal.bounds-offsets-i-in-loop-i
bounds-offsets-i-in-loop-i c = omega (arith, inside (goal.at.bounds-offsets-i-in-loop-i c).In-loop-i)

pub overflow_mul-i : goal.overflow_mul-i
overflow_mul-i c = omega (arith, fits (goal.at.overflow_mul-i c).In-loop-i)

pub overflow_mul-i-in-loop-i : goal.overflow_mul-i-in-loop-i
overflow_mul-i-in-loop-i c = omega (arith, fits (goal.at.overflow_mul-i-in-loop-i c).In-loop-i)

pub overflow_add-i : goal.overflow_add-i
overflow_add-i c = omega (arith, fits (goal.at.overflow_add-i c).In-loop-i)

pub offset_bounds-words-i : goal.offset_bounds-words-i
offset_bounds-words-i c = omega (arith, fits (goal.at.offset_bounds-words-i c).In-loop-i)

pub slice_bounds-mark_set-count : goal.slice_bounds-mark_set-count
slice_bounds-mark_set-count c = omega (arith, fits (goal.at.slice_bounds-mark_set-count c).In-loop-i)

pub slice_bounds-mark_set-start : goal.slice_bounds-mark_set-start
slice_bounds-mark_set-start c = omega (arith, fits (goal.at.slice_bounds-mark_set-start c).In-loop-i)

pub slice_bounds-mark_set-end : goal.slice_bounds-mark_set-end
slice_bounds-mark_set-end c = omega (arith, fits (goal.at.slice_bounds-mark_set-end c).In-loop-i)

pub offset_bounds-hashes-a : goal.offset_bounds-hashes-a
offset_bounds-hashes-a c = omega (arith, inside (goal.at.offset_bounds-hashes-a c).In-loop-i)

pub slice_bounds-mark_set-count-in-loop-i : goal.slice_bounds-mark_set-count-in-loop-i
slice_bounds-mark_set-count-in-loop-i c = omega (arith, inside (goal.at.slice_bounds-mark_set-count-in-loop-i c).In-loop-i)

pub slice_bounds-mark_set-start-in-loop-i : goal.slice_bounds-mark_set-start-in-loop-i
slice_bounds-mark_set-start-in-loop-i c = omega (arith, inside (goal.at.slice_bounds-mark_set-start-in-loop-i c).In-loop-i)

pub slice_bounds-mark_set-end-in-loop-i : goal.slice_bounds-mark_set-end-in-loop-i
slice_bounds-mark_set-end-in-loop-i c = omega (arith, inside (goal.at.slice_bounds-mark_set-end-in-loop-i c).In-loop-i)

pub mark_set-requires : goal.mark_set-requires
mark_set-requires c = let long = length_part c.args.w c.loop-i.i c.loop-i.words (fits (goal.at.mark_set-requires c).In-loop-i) in (omega (arith, c.requires.3), c.requires.4)

pub offset_bounds-sums-i : goal.offset_bounds-sums-i
offset_bounds-sums-i c = omega (arith, inside (goal.at.offset_bounds-sums-i c).In-loop-i, c.requires.2, c.loop-i.invariant.3.long)

pub bounds-sums-i : goal.bounds-sums-i
bounds-sums-i c = omega (arith, inside (goal.at.bounds-sums-i c).In-loop-i, c.requires.2, c.loop-i.invariant.3.long)

pub overflow_step-i : goal.overflow_step-i
overflow_step-i c = omega (arith, inside (goal.at.overflow_step-i c).In-loop-i)

pub loop-i-smaller : goal.loop-i-smaller
loop-i-smaller c = omega (arith, inside (goal.at.loop-i-smaller c).In-loop-i)

pub loop-i-preserved : goal.loop-i-preserved
unfolding set_at
loop-i-preserved c =
    let a = c.args in
    let here = c.loop-i in
    let call = c.mark_set in
    let hashes = a.hashes.now in
    let offsets = a.offsets.now in
    let chosen = a.columns.now.hashes.now in
    let means = a.columns.now.means.now in
    let columns = sym (set-columns chosen hashes offsets here.i) in
    let long = length_part a.w here.i here.words (fits (goal.at.loop-i-preserved c).In-loop-i) in
    let row = call.ensures.1 ∙ ap (λ (k : ℕ). packed k (present (length means) (map (column_of chosen) (set_at hashes offsets here.i)))) long
    ∙ ap (λ (s : List ℕ). packed a.w (present (length means) s)) columns in (
      omega arith,
      same_len_mid (here.i * a.w) (here.i * a.w + a.w - here.i * a.w) here.words call.new.row call.auto.row ∙ here.invariant.1,
      rows_next a.w (bits_of hashes offsets a.w chosen means) (λ k. length-packed a.w _) a.words.now here.i here.invariant.2 row
          (omega (arith, fits (goal.at.loop-i-preserved c).In-loop-i, here.invariant.1)),
      writing-next (sum_of hashes offsets chosen means) _ here.invariant.3 (omega (arith, c.requires.2)) (call.ensures.0 ∙ ap (column_sum means) columns),
    )

pub shape_of-words : goal.shape_of-words
shape_of-words c = c.loop-i.invariant.1

pub shape_of-sums : goal.shape_of-sums
shape_of-sums c = c.loop-i.invariant.3.long

pub returns : goal.returns
returns c =
    let a = c.args in
    let done : c.loop-i.i ≡ a.n = omega arith in
    let hashes = a.hashes.now in
    let offsets = a.offsets.now in
    let chosen = a.columns.now.hashes.now in
    let means = a.columns.now.means.now in (
      c.loop-i.invariant.2 ∙ ap (λ (k : ℕ). over (rows k (bits_of hashes offsets a.w chosen means)) a.words.now) done,
      c.loop-i.invariant.3.held ∙ ap (λ (k : ℕ). over (table k (sum_of hashes offsets chosen means)) a.sums.now) done,
    )
