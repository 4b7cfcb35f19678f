-- Section 2: sums over pairs. Definitions only.
-- t are the terms of m kept samples, row by row; mem are a group's members.
use Rattle.std.specs.Prelude.{ℕ, ◌+◌, List, map, get_or, Float}
use Rattle.std.specs.Float.{nan}
use Rattle.lists.specs.Ranges.{range}
use Rattle.lists.specs.Filters.{pairs}
use Rattle.lists.specs.Sums.{sum⁻, sum⁺}
use Rattle.lists.specs.Rows.{entry}

-- the number of sample a
abbrev pub at : List Float → ℕ → Float
at w a = get_or w a nan

-- over pairs a < b, row by row: each row's own sum, then their sum
unfoldable pub row_sum : List Float → ℕ → ℕ → Float
row_sum t m a = sum⁻ (map (entry m t a) (range (a + 1) m))

unfoldable pub rows_sum : List Float → ℕ → Float
rows_sum t m = sum⁻ (map (row_sum t m) (range 0 m))

-- over the pairs of a group, in one accumulator
unfoldable pub pair_sum : List Float → ℕ → List ℕ → Float
pair_sum t m mem = sum⁺ (pairs (entry m t) mem)
