-- Line 14 as the code looks at it: row by row, each pair of mirrors once. Definitions only.
use Rattle.std.specs.Prelude.{ℕ, Bool, ◌||◌, List, Float}
use Rattle.std.specs.Float.Ieee.{ne}
use Rattle.float.specs.Floats.{zero⁺}
use Rattle.lists.specs.Ranges.{range}
use Rattle.lists.specs.Rows.{entry}
use Rattle.lists.specs.Filters.{any}

-- some entry of row i left of the diagonal differs from its mirror, or the one on the diagonal from zero
unfoldable pub row_unmirrored : ℕ → List Float → ℕ → Bool
row_unmirrored n d i = any (λ j. ne (entry n d i j) (entry n d j i)) (range 0 i) || ne (entry n d i i) zero⁺
