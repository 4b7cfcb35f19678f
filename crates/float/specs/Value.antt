-- The value of a finite f64: a sign and a whole number of units of 2 ^ -1074, the smallest f64 above zero. Definitions only.
-- `HasValue x s a c` of the toolchain says that x is ±a / c, with the sign s; every finite f64 has the value ±units / 2 ^ 1074 (`units-exact` of proofs/Units.antt).
use Rattle.std.specs.Prelude.{ℕ, ◌+◌, ◌-◌, ◌*◌, ◌/◌, ◌^◌, ◌≤◌, Bool, true, false, not, cond, Float}
use Rattle.std.specs.Float.{nan, inf, fin}
use Rattle.std.specs.Float.Ieee.{up, down}

-- the sign bit of a number
abbrev pub sign : Float → Bool
sign nan = false
sign (inf s) = s
sign (fin s m e) = s

-- the size of a finite value in units, the sign left out
abbrev pub units : Float → ℕ
units nan = 0
units (inf s) = 0
units (fin s m e) = m * up e * 2 ^ 1074 / down e

-- The place of a finite value in the order of the finite f64, as a whole number: 2 ^ 2098, which no number of units reaches, with the units added or
-- taken off by the sign. Both zeros have one rank.
unfoldable pub rank : Float → ℕ
rank nan = 0
rank (inf s) = 0
rank (fin s m e) = cond s (2 ^ 2098 - units (fin s m e)) (2 ^ 2098 + units (fin s m e))

-- ---- ±a ≤ ±b for signs s and t, true where negative: there are no negative numbers here, so a term moves to the other side where its sign asks it
abbrev pub gain : Bool → ℕ → ℕ
gain false a = a
gain true a = 0

abbrev pub SignedLe : Bool → ℕ → Bool → ℕ → Type 0
SignedLe s a t b = gain s a + gain (not t) b ≤ gain t b + gain (not s) a
