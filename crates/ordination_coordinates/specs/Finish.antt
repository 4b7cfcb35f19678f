-- Section 4, `finish`: shares of the total variance, and coordinates of k eigenpairs, whose vectors are rows of n. Definitions only.
use Rattle.std.specs.Prelude.{ℕ, cond, List, ◌++◌, map, length, get_or, Float}
use Rattle.std.specs.Float.{nan}
use Rattle.std.specs.Float.Ieee.{lt}
use Rattle.float.specs.Floats.{◌⊗◌, ◌⊘◌, zero⁺}
use Rattle.float.specs.Order.{larger}
use Rattle.square_root.specs.Root.{root}
use Rattle.lists.specs.Ranges.{grid}
use Rattle.lists.specs.Rows.{entry}
use Rattle.ordination_coordinates.specs.Signs.{signs}

-- the root of a value, of 0 where it is below 0
unfoldable pub scale_of : Float → Float
scale_of v = root (larger v zero⁺)

unfoldable pub scales : List Float → List Float
scales values = map scale_of values

-- a value's share of the total variance
unfoldable pub share_of : Float → Float → Float
share_of total v = cond (lt zero⁺ total) (larger v zero⁺ ⊘ total) zero⁺

unfoldable pub shares : Float → List Float → List Float
shares total values = map (share_of total) values

-- sample i on component c, and all samples: n rows of k
unfoldable pub coord_at : ℕ → List Float → List Float → List Float → ℕ → ℕ → Float
coord_at n sg sc vectors i c = get_or sg c nan ⊗ entry n vectors c i ⊗ get_or sc c nan

unfoldable pub coords : ℕ → ℕ → List Float → List Float → List Float → List Float
coords n k sg sc vectors = grid n k (coord_at n sg sc vectors)

-- k values, k shares of the total variance, and coordinates n by k
pub record Coordinates : Type 0 where
  pub values : List Float
  pub shares : List Float
  pub coords : List Float

unfoldable pub finish : ℕ → Float → List Float → List Float → Coordinates
finish n total values vectors =
    let k = length values in
    record {
      values = values;
      shares = shares total values;
      coords = coords n k (signs n k vectors) (scales values) vectors;
    }

-- as an output's first part has them
unfoldable pub laid : Coordinates → List Float
laid c = c.values ++ (c.shares ++ c.coords)
