-- Section 4: lines 1 to 3 of the table, 14 and 6, for `pcoa`. Definitions only.
use Rattle.std.specs.Prelude.{ℕ, ◌*◌, min, Bool, ◌||◌, List, [], ◌∷◌, ◌++◌, eqb, ltb, Float}
use Rattle.limits.specs.Limits.{most_components}
use Rattle.outcome.specs.Refusals.{Line, ◌when◌, unfit}
use Rattle.lot.specs.Lines.{size_lines, matrix_lines}
use Rattle.ordination_coordinates.specs.Lengths.{too_short}

-- components 0 or above 16
unfoldable pub bad_components : ℕ → Bool
bad_components components = eqb components 0 || ltb most_components components

-- 6
abbrev pub few_lines : ℕ → List Line
few_lines n = (6 when ltb n 3) ∷ []

-- sizes and the matrix (3 and 14) as for the tests, then 6; components above n mean n
unfoldable pub pcoa_lines : ℕ → ℕ → List Float → ℕ → ℕ → ℕ → ℕ → ℕ → List Line
pcoa_lines components n d out b w m v = size_lines (unfit d (n * n) || too_short (min components n) n out b w m v) n (bad_components components) ++ matrix_lines n d ++ few_lines n
