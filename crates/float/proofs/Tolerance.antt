-- THE TOLERANCE LAW (`threshold-le`): a finite F reaches its own threshold F - 1e-12·|F|, and so does every value that is no smaller, however the threshold is rounded.
-- So what ranks no lower than the observed F is a hit of it, and a count of hits is never below a count by ranks.
use mathlib.Core.Path.{◌≡◌, refl, sym, subst}
use mathlib.Core.Bool.{true, false, true≢false}
use Prim.Native.Nat.{◌*◌, ◌≤◌}
use native.Mathlib.Nat.{mul-pos}
use lib.Dec.{T, le→leb}
use lib.Ieee.{Float, nan, inf, fin, Format, binary64, up, down, sub, mul, le, fits, of_bits}
use lib.Ieee.Fits.{down_pos}
use lib.Ieee.Scale.{finite}
use Rattle.float.specs.{Floats.1e-12, Value.sign, Value.rank, Order.magnitude, Tolerance.threshold, Tolerance.as_large}
use Rattle.float.proofs.{Value.zero_of, Order.le_trans, Rank.le-rank, Rounding.round-nonneg, Sum.sub-le}

-- ---- the law, for any factor c that is not negative
mul-nonneg : (f : Format) (c x : Float) → T (finite c) → sign c ≡ false → T (finite x) → T (le (zero_of false) (mul f c (magnitude x)))
unfolding mul magnitude
mul-nonneg f nan x p s q = absurd p
mul-nonneg f (inf t) x p s q = absurd p
mul-nonneg f (fin true m e) x p s q = absurd (true≢false s)
mul-nonneg f (fin false m e) nan p s q = absurd q
mul-nonneg f (fin false m e) (inf t) p s q = absurd q
mul-nonneg f (fin false m e) (fin t n d) p s q = round-nonneg f (m * up e * (n * up d)) (down e * down d) (mul-pos (down_pos e) (down_pos d))

pub slack-le : (f : Format) (c x : Float) → T (finite c) → sign c ≡ false → T (fits f x) → T (finite x) → T (le (sub f x (mul f c (magnitude x))) x)
slack-le f c x p s t q = sub-le f x (mul f c (magnitude x)) t q (mul-nonneg f c x p s q)

-- ---- the tolerance 1e-12
tolerance-finite : T (finite 1e-12)
unfolding of_bits
tolerance-finite = tt

tolerance-sign : sign 1e-12 ≡ false
unfolding of_bits
tolerance-sign = refl

-- THE TOLERANCE LAW
pub threshold-le : (x : Float) → T (fits binary64 x) → T (finite x) → T (le (threshold x) x)
unfolding threshold
threshold-le x t q = slack-le binary64 1e-12 x tolerance-finite tolerance-sign t q

-- ---- so what is no smaller is as large, and what ranks no lower
pub as-large-of-le : (x y : Float) → T (fits binary64 x) → T (finite x) → T (le x y) → T (as_large x y)
as-large-of-le x y t q h = le_trans (threshold x) x y (threshold-le x t q) h

pub as-large-refl : (x : Float) → T (fits binary64 x) → T (finite x) → T (as_large x x)
as-large-refl x t q = threshold-le x t q

pub as-large-of-rank : (x y : Float) → T (fits binary64 x) → T (fits binary64 y) → T (finite x) → T (finite y) → rank x ≤ rank y → T (as_large x y)
as-large-of-rank x y t u q r h = as-large-of-le x y t q (subst T (sym (le-rank x y t u q r)) (le→leb (rank x) (rank y) h))

-- what is no smaller than a hit is a hit
pub as-large-trans : (x y z : Float) → T (as_large x y) → T (le y z) → T (as_large x z)
as-large-trans x y z h k = le_trans (threshold x) y z h k
