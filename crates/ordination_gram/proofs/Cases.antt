-- Worked sets as theorems: case (j) of document 01, and a set with repeats.
use Rattle.lists.proofs.Base.{ℕ, ◌≤◌, ◌≡◌, refl, List, [], ◌∷◌, map, le-ltb, length}
use lib.Ieee.{Float, add, sub, mul, div, of_bits, to_bits, of_int, odd, size}
use Rattle.float.specs.Floats.{bits}
use Rattle.lists.specs.{Ranges.up_from, Ranges.range, Ranges.table, Ranges.rows, Ranges.grid, Filters.filter, Filters.count_if, Filters.any}
use Rattle.lists.specs.{Numbers.how_many, Numbers.contains, Numbers.insert_up, Numbers.upward, Sums.sum_from, Writes.over, Writes.cleared}
use Rattle.outcome.specs.{Refusals.first, Refusals.short, Outcome.answered, Slices.output, Slices.work}
use Rattle.ordination_hashes.specs.Selected.{selected, frequency}
use Rattle.ordination_sets.specs.Sets.{set_at, sets}
use Rattle.ordination_gram.specs.{Gram.mean_sum, Gram.shared, Gram.gram, Call.features, Call.leaves, Call.gram_call}
use Rattle.ordination_sets.specs.Lines.{falls, bad_offsets, too_short, early_lines, late_lines, gram_lines}

-- ---- case (j): sets {5}, {5}, {}, {}

abbrev hashes : List ℕ
hashes = 5 ∷ 5 ∷ []

abbrev offsets : List ℕ
offsets = 0 ∷ 1 ∷ 2 ∷ 2 ∷ 2 ∷ []

-- the entries are 0.25, but -0.25 between the first two sets and the last two
pub case-j : map bits (gram 4 hashes offsets) ≡ (let p : ℕ = 0x3fd0_0000_0000_0000 in let q : ℕ = 0xbfd0_0000_0000_0000 in p ∷ p ∷ q ∷ q
    ∷ p ∷ p ∷ q ∷ q
    ∷ q ∷ q ∷ p ∷ p
    ∷ q ∷ q ∷ p ∷ p ∷ [])
unfolding add sub mul div of_bits to_bits of_int odd size up_from table rows grid filter count_if any how_many contains insert_up upward sum_from set_at sets selected frequency mean_sum shared gram
case-j = refl

-- the whole call: one selected hash, the matrix in front of what was lent, the rest as it was, and the words cleared
pub case-j-call : (out : List Float) (words : List ℕ) → 16 ≤ length out → 64 ≤ length words
    → gram_call 4 hashes offsets out words ≡ leaves (answered 1) (over (gram 4 hashes offsets) out) (cleared 0 words)
unfolding gram_call features output work first early_lines late_lines gram_lines bad_offsets falls too_short short up_from range filter count_if any how_many insert_up upward selected
case-j-call out words h k = rw (le-ltb (length out) 16 h, le-ltb (length words) 64 k)

-- ---- every occurrence counts: of the sets {1, 1, 2}, {2, 3}, {3}, {9} the hash 1 has frequency 2, in one set, and is selected; 9 is not
pub repeats-count : selected 4 (1 ∷ 1 ∷ 2 ∷ 2 ∷ 3 ∷ 3 ∷ 9 ∷ []) ≡ 1 ∷ 2 ∷ 3 ∷ []
unfolding filter count_if how_many insert_up upward selected
repeats-count = refl
