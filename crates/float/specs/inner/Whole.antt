-- Section 2: whole numbers as floats, for sums that "equal the whole-number sums". Definitions only.
use Rattle.std.specs.Prelude.{◌≡◌, ◌⊎◌, true, ℕ, pos, Float}
use Rattle.std.specs.Float.{fin, Format}
use Rattle.std.specs.Float.Ieee.{of_int}

-- n as a float of the format f, exact up to 2 ^ prec and rounded above; `num n` is `of_nat binary64 n`
abbrev pub of_nat : Format → ℕ → Float
of_nat f n = of_int f (pos n)

-- x is the number n: n as a float, or -0 where n is 0, as a sum that starts at -0 and has no terms is
abbrev pub Whole : Format → Float → ℕ → Type 0
Whole f x n = (x ≡ of_nat f n) ⊎ ((x ≡ fin true 0 (pos 0)) × (n ≡ 0))
