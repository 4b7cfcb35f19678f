-- The pattern of a float, NaN's too.
use Rattle.lists.proofs.Base.{◌≡◌, refl, sym, ap, ◌∙◌, subst, true, T}
use lib.Ieee.{Float, nan, binary64, to_bits, ne}
use lib.Ieee.Compare.{differs_from_itself}
use Rattle.float.specs.Floats.{bits}

bits_of_nan : to_bits binary64 nan ≡ 0x7ff8_0000_0000_0000
unfolding to_bits
bits_of_nan = refl

-- after the test `f != f` held
pub pattern-of-nan : (f : Float) → ne f f ≡ true → 0x7ff8_0000_0000_0000 ≡ bits f
pattern-of-nan f h = sym (ap (to_bits binary64) (differs_from_itself f (subst T (sym h) tt)) ∙ bits_of_nan)
