-- That each pattern of a NaN is the one NaN.
use Rattle.lists.proofs.Base.{◌≡◌, refl, sym, ◌∙◌, ℕ, ◌*◌, ◌%◌, ◌<◌, lt-ltb}
use lib.Ieee.{nan, binary64, ones, hid, top, of_bits}
use lib.Ieee.Bits.{nan_bits_above, nan_bits_is}
use Rattle.float.proofs.{Tests.passes, Nan.is-nan}

-- above the infinity's pattern, the sign left out
pub pattern-nan : (b : ℕ) → 0x7ff0_0000_0000_0000 < b % top binary64 → of_bits binary64 b ≡ nan
pattern-nan b h =
    is-nan (of_bits binary64 b) (passes (sym (nan_bits_is binary64 b) ∙ nan_bits_above binary64 b ∙ lt-ltb (ones binary64 * hid binary64) (b % top binary64) h))

pub nan_pattern : of_bits binary64 9221120237041090560 ≡ nan
unfolding of_bits
nan_pattern = refl
