-- How large the warnings are, and the largest and the smallest group from the first on.
use Rattle.lists.proofs.Base.{◌≡◌, refl, Bool, true, false, ◌&&◌, cond, ℕ, ◌≤◌, max, min, arith}
use Rattle.std.specs.Prelude.{Option, Some, None, fold, unwrap_or}
use Rattle.std.specs.List.{reduce}
use mathlib.Core.List.{List, [], ◌∷◌, foldr}
use lib.Ieee.{Float, lt, le}
use Rattle.float.specs.Floats.{◌⊗◌, num, 0·05, 0·2, 3·0}
use Rattle.lists.specs.Numbers.{sumℕ}
use Rattle.permanova_p_values.specs.{WarningBits.bit, WarningBits.warning_bits, Together.largest, Together.smallest, Together.alarmed, Together.together}

-- the largest and the smallest, from the first on
max-fold : (a : ℕ) (xs : List ℕ) → fold max a xs ≡ max a (foldr max 0 xs)
max-fold a [] = omega arith
max-fold a (x ∷ xs) = omega (arith, max-fold (max a x) xs)

pub largest-reduce : (sizes : List ℕ) → unwrap_or (reduce max sizes) 0 ≡ largest sizes
unfolding largest
largest-reduce [] = refl
largest-reduce (x ∷ xs) = max-fold x xs

min-fold : (most a : ℕ) (xs : List ℕ) → a ≤ most → fold min a xs ≡ min a (foldr min most xs)
min-fold most a [] h = omega arith
min-fold most a (x ∷ xs) h = omega (arith, min-fold most (min a x) xs (omega arith))

pub smallest-reduce : (sizes : List ℕ) → unwrap_or (reduce min sizes) 0 ≡ smallest sizes
unfolding smallest largest
smallest-reduce [] = refl
smallest-reduce (x ∷ xs) = min-fold _ x xs (omega arith)

-- a bit is at most its weight
pub bit_le : (b : ℕ) (on : Bool) → bit b on ≤ b
bit_le b true = omega arith
bit_le b false = omega arith

-- how large the bits are
pub warned-le : (a b c d e : Bool) → warning_bits a b c d e ≤ 31
unfolding sumℕ
warned-le a b c d e = omega (arith, bit_le 1 a, bit_le 2 b, bit_le 4 c, bit_le 8 d, bit_le 16 e)

pub together-le : (sizes : List ℕ) (p q : Option Float) → together sizes p q ≤ 64
together-le sizes None None = unfold together in omega arith
together-le sizes None (Some q) = unfold together in omega arith
together-le sizes (Some p) None = unfold together in omega arith
together-le sizes (Some p) (Some q) = unfold together alarmed in go (lt p 0·05 && lt q 0·05) (lt p 0·05 && le (3·0 ⊗ num (smallest sizes)) (num (largest sizes)) && lt q 0·2)
  where
    go : (a b : Bool) → cond a 32 (bit 64 b) ≤ 64
    go true b = omega arith
    go false b = bit_le 64 b
