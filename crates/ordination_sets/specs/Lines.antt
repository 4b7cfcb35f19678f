-- Lines 1, 2, 6, 13 and 7 of the table for sets of hashes (document 01, "What a turned-away lot returns"; document 02: Q-1 for 13, Q-7 for the limit of
-- 7). Definitions only.
use Rattle.std.specs.Prelude.{ℕ, ◌+◌, ◌*◌, Bool, not, ◌||◌, List, [], ◌∷◌, ◌++◌, eqb, ltb, length, get_or}
use Rattle.limits.specs.Limits.{most_hashes, most_samples, most_selected, selected_words}
use Rattle.lists.specs.Ranges.{range}
use Rattle.lists.specs.Filters.{any}
use Rattle.outcome.specs.Refusals.{Line, ◌when◌, unfit, short}
use Rattle.ordination_hashes.specs.Selected.{selected}

-- some offset is above the one after it
unfoldable pub falls : ℕ → List ℕ → Bool
falls n offsets = any (λ i. ltb (get_or offsets (i + 1) 0) (get_or offsets i 0)) (range 0 n)

-- not n + 1 offsets, from 0 up to the number of hashes, never down
unfoldable pub bad_offsets : ℕ → ℕ → List ℕ → Bool
bad_offsets n hashes offsets =
    unfit offsets (n + 1) || not (eqb (get_or offsets 0 0) 0) || not (eqb (get_or offsets n 0) hashes) || falls n offsets

-- what is asked of the output, n by n, and of the work slice, a bit for each hash that can be selected, for each sample
abbrev pub gram_asks : ℕ → List ℕ
gram_asks n = n * n ∷ n * selected_words ∷ []

unfoldable pub too_short : ℕ → ℕ → ℕ → Bool
too_short n out words = short (out ∷ words ∷ []) (gram_asks n)

-- The lines that do not look at the hashes, of which there are so many. `short` says that an output or work slice is short, `beyond` that another
-- argument is beyond its limit.
unfoldable pub early_lines : ℕ → ℕ → List ℕ → Bool → Bool → List Line
early_lines n hashes offsets short beyond =
    (1 when bad_offsets n hashes offsets || short)
    ∷ (2 when ltb most_samples n || ltb most_hashes hashes || beyond)
    ∷ (6 when ltb n 3)
    ∷ []

-- and those that do, by the number of hashes with frequency 2 to n - 1
unfoldable pub late_lines : ℕ → List Line
late_lines m = (13 when eqb m 0) ∷ (7 when ltb most_selected m) ∷ []

unfoldable pub gram_lines : ℕ → List ℕ → List ℕ → Bool → Bool → List Line
gram_lines n hashes offsets short beyond = early_lines n (length hashes) offsets short beyond ++ late_lines (length (selected n hashes))
