-- Operations on f64, each rounded once, and the constants that document 01 names, by their bits. Definitions only.
use Rattle.std.specs.Prelude.{ℕ, pos, Float}
use Rattle.std.specs.Float.{binary64}
use Rattle.std.specs.Float.Ieee.{neg, add, sub, mul, div, of_bits, to_bits, of_int}

infixl 65 ◌⊕◌
infixl 65 ◌⊖◌
infixl 70 ◌⊗◌
infixl 70 ◌⊘◌
-- x + y, x - y, x * y and x / y, each rounded once to f64
abbrev pub ◌⊕◌ : Float → Float → Float
x ⊕ y = add binary64 x y

abbrev pub ◌⊖◌ : Float → Float → Float
x ⊖ y = sub binary64 x y

abbrev pub ◌⊗◌ : Float → Float → Float
x ⊗ y = mul binary64 x y

abbrev pub ◌⊘◌ : Float → Float → Float
x ⊘ y = div binary64 x y

-- the f64 with the bits b, the bits of x, and `n as f64`
abbrev pub f64 : ℕ → Float
f64 b = of_bits binary64 b

abbrev pub bits : Float → ℕ
bits x = to_bits binary64 x

abbrev pub num : ℕ → Float
num n = of_int binary64 (pos n)

-- ---- constants, by their bits, as the code's literals have them

-- 0.0, where the Rust adds into a variable of its own, and -0.0, where it writes `sum`
abbrev pub zero⁺ : Float
zero⁺ = f64 0

abbrev pub zero⁻ : Float
zero⁻ = neg zero⁺

abbrev pub 0·5 : Float
0·5 = f64 0x3fe0_0000_0000_0000

abbrev pub -0·5 : Float
-0·5 = neg 0·5

abbrev pub 1·0 : Float
1·0 = f64 0x3ff0_0000_0000_0000

abbrev pub -1·0 : Float
-1·0 = neg 1·0

abbrev pub 1·05 : Float
1·05 = f64 0x3ff0_cccc_cccc_cccd

abbrev pub 2·0 : Float
2·0 = f64 0x4000_0000_0000_0000

abbrev pub 3·0 : Float
3·0 = f64 0x4008_0000_0000_0000

abbrev pub 0·05 : Float
0·05 = f64 0x3fa9_9999_9999_999a

abbrev pub 0·2 : Float
0·2 = f64 0x3fc9_9999_9999_999a

abbrev pub 1e-8 : Float
1e-8 = f64 0x3e45_798e_e230_8c3a

abbrev pub 1e-10 : Float
1e-10 = f64 0x3ddb_7cdf_d9d7_bdbb

abbrev pub 1e-12 : Float
1e-12 = f64 0x3d71_9799_812d_ea11

abbrev pub 1e-22 : Float
1e-22 = f64 0x3b5e_3920_1017_5ee6

abbrev pub 1e-300 : Float
1e-300 = f64 0x01a5_6e1f_c2f8_f359

-- 2 ^ -1022
abbrev pub smallest_normal : Float
smallest_normal = f64 0x0010_0000_0000_0000

abbrev pub 2^-20 : Float
2^-20 = f64 0x3eb0_0000_0000_0000

abbrev pub 2^20 : Float
2^20 = f64 0x4130_0000_0000_0000

abbrev pub 2^40 : Float
2^40 = f64 0x4270_0000_0000_0000

abbrev pub 2^53 : Float
2^53 = f64 0x4340_0000_0000_0000
