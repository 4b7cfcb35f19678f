-- Section 1: the bit pattern of an f64 above zero, read as a number of units of 2 ^ -1074, for the functions that take it apart. Definitions only.
use Rattle.std.specs.Prelude.{ℕ, ◌+◌, ◌-◌, ◌*◌, ◌/◌, ◌%◌, ◌^◌, cond, ltb}

-- The lower 52 digits of the pattern are the significand's and the rest is the exponent. Below 2 ^ 52 the value is subnormal, with no digit in front and the exponent 1.
unfoldable pub units_of : ℕ → ℕ
units_of b = cond (ltb b (2 ^ 52)) b ((2 ^ 52 + b % 2 ^ 52) * 2 ^ (b / 2 ^ 52 - 1))
