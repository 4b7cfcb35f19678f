-- Section 1: absolute value, the larger of two, finiteness, the sign as a number, and which floats are below zero. Definitions only.
use Rattle.std.specs.Prelude.{Bool, false, ◌&&◌, cond, ltb, Float}
use Rattle.std.specs.Float.{nan, inf, fin}
use Rattle.std.specs.Float.Ieee.{lt, is_nan}
use Rattle.float.specs.Floats.{1·0, -1·0}
use Rattle.float.specs.Value.{sign}

-- x without its sign
unfoldable pub magnitude : Float → Float
magnitude nan = nan
magnitude (inf s) = inf false
magnitude (fin s m e) = fin false m e

-- The larger of two numbers. Of equal ones it is their one value, negative only if both are: so the larger of -0.0 and 0.0 is 0.0.
-- Of NaN and a number it is the number.
unfoldable pub larger : Float → Float → Float
larger nan y = y
larger (inf s) nan = inf s
larger (inf s) (inf t) = inf (s && t)
larger (inf s) (fin t n d) = cond s (fin t n d) (inf s)
larger (fin s m e) nan = fin s m e
larger (fin s m e) (inf t) = cond t (fin s m e) (inf t)
larger (fin s m e) (fin t n d) =
    cond (lt (fin s m e) (fin t n d)) (fin t n d)
    (cond (lt (fin t n d) (fin s m e)) (fin s m e) (fin (s && t) m e))

-- 1 with the sign of x, also of a zero; NaN of NaN
unfoldable pub signum : Float → Float
signum x = cond (is_nan x) nan (cond (sign x) -1·0 1·0)

-- x is below zero: -infinity, or a number with the sign bit that is not 0. Neither zero is, and no NaN.
unfoldable pub below_zero : Float → Bool
below_zero nan = false
below_zero (inf s) = s
below_zero (fin s m e) = s && ltb 0 m
