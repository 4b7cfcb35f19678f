-- Section 1: what IEEE 754 asks of a square root, on whole numbers. `root-nearest` and `nearest-unique` of proofs/Nearest.antt prove that `root` meets it
-- and that nothing else does, so a reader of the contract need not read how `root` works. Statements only.
use Rattle.std.specs.Prelude.{◌+◌, ◌*◌, ◌^◌, ◌<◌, T, Float}
use Rattle.std.specs.Float.{binary64}
use Rattle.std.specs.Float.Ieee.{fits}
use Rattle.std.specs.Float.Ieee.Scale.{finite}
use Rattle.std.specs.Float.Ieee.Positive.{positive}
use Rattle.float.specs.Value.{units}

-- r is the root of x, for an x that is finite and above zero: r is an f64, and of all f64 it is the nearest to √x.
-- With X, R, Y for the units of x, r, y the root of x is √(X * 2 ^ 1074) units, so "√x is on r's side of the point halfway between y and r" is an order
-- between (Y + R) ^ 2 and 4 * X * 2 ^ 1074. Both orders are strict, so no other f64 is as near: there is no tie for the rule "ties to even" to decide.
-- A negative y is farther off than its absolute value, so the sign of y is left out.
pub record NearestRoot (x r : Float) : Type 0 where
  pub held : T (fits binary64 r)
  pub above_zero : T (positive r)
  pub beats-smaller : (y : Float) → T (fits binary64 y) → T (finite y) → units y < units r → (units y + units r) * (units y + units r) < 4 * (units x * 2 ^ 1074)
  pub beats-larger : (y : Float) → T (fits binary64 y) → T (finite y) → units r < units y → 4 * (units x * 2 ^ 1074) < (units y + units r) * (units y + units r)
