-- What the loops compute: the matrix of sets of columns. Definitions only.
use Rattle.std.specs.Prelude.{ℕ, min, max, ◌&&◌, List, map, ltb, length, get_or, Float}
use Rattle.std.specs.Float.{nan}
use Rattle.float.specs.Floats.{◌⊕◌, ◌⊖◌, ◌⊗◌, num}
use Rattle.lists.specs.Ranges.{range, grid}
use Rattle.lists.specs.Filters.{filter, count_if}
use Rattle.lists.specs.Numbers.{contains}
use Rattle.lists.specs.Rows.{row}
use Rattle.lists.specs.Sums.{sum⁻}
use Rattle.ordination_sets.specs.Sets.{set_at}
use Rattle.ordination_gram.specs.inner.Bits.{common}

-- ---- the rows

abbrev pub square : Float → Float
square x = x ⊗ x

-- the sum of the means of a set's columns
unfoldable pub column_sum : List Float → List ℕ → Float
column_sum means s = sum⁻ (map (λ c. get_or means c nan) (filter (λ c. ltb c (length means)) s))

-- ---- the matrix

-- the entry of rows i and j, from the rows' bits in w words, the sums of means and the sum of squared means
unfoldable pub entry_at : ℕ → List ℕ → List Float → Float → ℕ → ℕ → Float
entry_at w words sums t i j = num (common (row w i words) (row w j words)) ⊖ get_or sums i nan ⊖ get_or sums j nan ⊕ t

-- the matrix of sets of columns with these means
unfoldable pub column_gram : ℕ → List ℕ → List ℕ → List Float → List Float
column_gram n columns offsets means =
    let t = sum⁻ (map square means) in
    let set : ℕ → List ℕ = set_at columns offsets in
    let sum : ℕ → Float = λ i. column_sum means (set i) in
    let shared : ℕ → ℕ → ℕ = λ i j. count_if (λ c. contains c (set i) && contains c (set j)) (range 0 (length means)) in
    let upper : ℕ → ℕ → Float = λ i j. num (shared i j) ⊖ sum i ⊖ sum j ⊕ t in
    grid n n (λ i j. upper (min i j) (max i j))
