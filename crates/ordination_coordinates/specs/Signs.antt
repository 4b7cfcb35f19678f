-- Section 4, `finish`: the signs of k vectors, rows of n. Definitions only.
use Rattle.std.specs.Prelude.{ℕ, cond, List, length, get_or, Float}
use Rattle.std.specs.Float.{nan}
use Rattle.std.specs.Float.Ieee.{lt}
use Rattle.float.specs.Floats.{zero⁺, 1·0, -1·0}
use Rattle.float.specs.Order.{magnitude}
use Rattle.lists.specs.Loops.{in_turn}
use Rattle.lists.specs.Ranges.{table}
use Rattle.lists.specs.Rows.{row}

-- the entry of largest magnitude, the first of equals
unfoldable pub stronger : Float → Float → Float
stronger m x = cond (lt (magnitude m) (magnitude x)) x m

unfoldable pub largest : List Float → Float
largest v = in_turn (λ i m. stronger m (get_or v i nan)) (length v) zero⁺

-- the sign that makes it positive
unfoldable pub orient : List Float → Float
orient v = cond (lt (largest v) zero⁺) -1·0 1·0

unfoldable pub signs : ℕ → ℕ → List Float → List Float
signs n k vectors = table k (λ c. orient (row n c vectors))
