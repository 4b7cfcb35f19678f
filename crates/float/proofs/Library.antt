-- What std's methods of `f64` answer, in our words.
use mathlib.Core.Path.{◌≡◌, refl}
use mathlib.Core.Bool.{true, false}
use lib.Ieee.{Float, nan, inf, fin, is_nan, neg, of_bits}
use lib.Ieee.Scale.{finite}
use Rattle.std.specs.Float.{float_with_sign, float_is_finite, float_signum}
use Rattle.float.specs.Order.{magnitude, signum}

pub magnitude_from : (x : Float) → float_with_sign false x ≡ magnitude x
unfolding magnitude float_with_sign
magnitude_from nan = refl
magnitude_from (inf s) = refl
magnitude_from (fin s m e) = refl

pub finite_from : (x : Float) → float_is_finite x ≡ finite x
unfolding float_is_finite
finite_from nan = refl
finite_from (inf s) = refl
finite_from (fin s m e) = refl

pub signum_from : (x : Float) → float_signum x ≡ signum x
unfolding float_signum signum of_bits neg is_nan
signum_from nan = refl
signum_from (inf true) = refl
signum_from (inf false) = refl
signum_from (fin true m e) = refl
signum_from (fin false m e) = refl
