-- Sections 6 and 8: one F is as large as another, within the tolerance of 1e-12. Definitions only.
use Rattle.std.specs.Prelude.{Bool, Float}
use Rattle.std.specs.Float.Ieee.{le}
use Rattle.float.specs.Floats.{◌⊖◌, ◌⊗◌, 1e-12}
use Rattle.float.specs.Order.{magnitude}

-- F - 1e-12·|F|, each operation rounded
unfoldable pub threshold : Float → Float
threshold x = x ⊖ 1e-12 ⊗ magnitude x

-- F' >= F - 1e-12·|F|
abbrev pub as_large : Float → Float → Bool
as_large f f' = le (threshold f) f'
