-- The units of an f64, its size in units of 2 ^ -1074: they are exact (`units-exact`), they have at most 53 digits before their zeros, and the bit pattern holds them.
use mathlib.Core.Path.{◌≡◌, sym, ap, ◌∙◌, subst}
use Prim.Native.Nat.{ℕ, zero, suc, ◌+◌, ◌-◌, ◌*◌, ◌/◌, ◌%◌, ◌^◌, ◌≤◌, ◌<◌, zero-le}
use native.Mathlib.Nat.{le_of_suc-le-suc, le_trans, le_of_eq, le_of_lt, le_antisymm, lt_of_lt_of_le, lt_of_le_of_lt, lt_of_not-le}
use native.Mathlib.Nat.{not-le_of_lt, zero-add, zero-mul, mul-one, mul_assoc, mul_right_comm, mul-pos, mul-le-mul_right, mul-lt-mul_of_pos_right}
use native.Mathlib.Nat.{lt_of_mul-lt-mul_right, mul-div_cancel, div-one, le-div_iff_mul-le}
use native.Mathlib.Omega.{arith}
use mathlib.Core.Bool.{Bool, true, false, not, cond}
use lib.IntN.{ℤ, pos, negsuc}
use lib.Dec.{T, ltb, ltb→lt, nltb→le, lit<}
use lib.Pow.{pow-add, pow_pos, pow_mono, pow-lt, shl_lt}
use borrow.Author.Tests.{lt-ltb, le-ltb}
use lib.Ieee.{Float, nan, inf, fin, Format, binary64, low, up, down, size, odd, fits, to_bits, of_bits}
use lib.Ieee.Digits.{size-lt, size-le, size_reaches, back}
use lib.Ieee.Fits.{down_pos, kept-lt, odd-fits}
use lib.Ieee.Exact.{HasValue, odd_sign}
use lib.Ieee.Scale.{finite}
use lib.Ieee.Positive.{positive, positive_of_value, positive-finite, value_pos}
use lib.Ieee.Bits.{of_bits-to_bits}
use Rattle.float.specs.Value.{units, sign}
use Rattle.float.specs.inner.Pattern.{units_of}
use Rattle.float.proofs.Value.{depth, units_at, value-at, fitting, zero_exponent}

-- ---- a number of at most 53 digits with zeros after them
pub record Grid (n : ℕ) : Type 0 where
  pub digits : ℕ
  pub zeros : ℕ
  pub few : digits < 2 ^ 53
  pub made : n ≡ digits * 2 ^ zeros

-- ---- every finite f64 is a whole number of units
pow-back : (j k : ℕ) → 2 ^ j ≤ 2 ^ k → j ≤ k
pow-back j k h = le_of_suc-le-suc (lt_of_not-le (λ (g : suc k ≤ j). not-le_of_lt (pow-lt g) h))

-- no digit of a value that fits is finer than the format's smallest value
pub depth_le : (f : Format) (x : Float) → T (fits f x) → depth x ≤ low f
depth_le f nan h = zero-le
depth_le f (inf s) h = zero-le
depth_le f (fin s m (pos k)) h = zero-le
depth_le f (fin s zero (negsuc k)) h = absurd (elsewhere (zero_exponent f s (negsuc k) h))
  where
    elsewhere : negsuc k ≡ pos 0 → ⊥
    elsewhere e = let z : ◌≡◌ {A = ℕ} 0 1 = cc in omega arith
depth_le f (fin s (suc m) (negsuc k)) h = pow-back (suc k) (low f) (fitting f s m (negsuc k) h).not-fine

-- the units from any fraction with that denominator
pub units-is : (x : Float) (s : Bool) (a : ℕ) → HasValue x s a (2 ^ 1074) → units x ≡ a
units-is nan s a h = elim h [ ]
units-is (inf _) s a h = elim h [ ]
units-is (fin t m e) s a h = ap (λ (z : ℕ). z / down e) h.1 ∙ mul-div_cancel a (down_pos e)

pub units-exact : (x : Float) → T (fits binary64 x) → T (finite x) → HasValue x (sign x) (units x) (2 ^ 1074)
units-exact x h t =
    let v = value-at 1074 x t (depth_le binary64 x h) in
    subst (λ (a : ℕ). HasValue x (sign x) a (2 ^ 1074)) (sym (units-is x (sign x) (units_at 1074 x) v)) v

pub units-grid : (x : Float) → T (fits binary64 x) → T (finite x) → Grid (units x)
units-grid nan h t = absurd t
units-grid (inf s) h t = absurd t
units-grid (fin s m e) h t =
    let x = fin s m e in
    let p = place e in
    record { digits = m; zeros = p.0; few = few m h; made = units-is x s (units_at 1074 x) (value-at 1074 x tt (depth_le binary64 x h)) ∙ p.1 }
  where
    place : (e : ℤ) → (j : ℕ) × (units_at 1074 (fin s m e) ≡ m * 2 ^ j)
    place (pos k) = (k + 1074, mul_assoc m (2 ^ k) (2 ^ 1074) ∙ ap (λ (z : ℕ). m * z) (sym (pow-add 2 k 1074)))
    place (negsuc k) = (1074 - suc k, ap (λ (z : ℕ). z * 2 ^ (1074 - suc k)) (mul-one m))

    few : (m : ℕ) → T (fits binary64 (fin s m e)) → m < 2 ^ 53
    few zero h = lit< tt
    few (suc m) h = (fitting binary64 s m e h).few-digits

-- every finite value is below 2 ^ 1024
pub units_lt : (x : Float) → T (fits binary64 x) → T (finite x) → units x < 2 ^ 2098
units_lt nan h t = absurd t
units_lt (inf s) h t = absurd t
units_lt (fin s m e) h t = lt_of_mul-lt-mul_right (down e) (below (2 ^ 1024) (2 ^ 1074) (units-exact (fin s m e) h t).1 (under m h) (pow_pos 1074))
  where
    under : (m : ℕ) → T (fits binary64 (fin s m e)) → m * up e < 2 ^ 1024 * down e
    under zero h = subst (λ (z : ℕ). z < 2 ^ 1024 * down e) (sym (zero-mul (up e))) (mul-pos (pow_pos 1024) (down_pos e))
    under (suc m) h = (fitting binary64 s m e h).not-large

    below : (a b : ℕ) → m * up e * b ≡ units (fin s m e) * down e → m * up e < a * down e → 0 < b → units (fin s m e) * down e < a * b * down e
    below a b p q B = subst (λ (x : ℕ). x < a * b * down e) p (lt_of_lt_of_le (mul-lt-mul_of_pos_right q B) (le_of_eq (mul_right_comm a (down e) b)))

pub units-pos : (x : Float) → T (positive x) → T (fits binary64 x) → 0 < units x
units-pos nan p h = elim p [ ]
units-pos (inf _) p h = elim p [ ]
units-pos (fin true m e) p h = elim p [ ]
units-pos (fin false m e) p h = value_pos (fin false m e) (units (fin false m e)) (2 ^ 1074) p (pow_pos 1074) (units-exact (fin false m e) h tt)

-- ---- the digits of a number
pub size-gt : (n j : ℕ) → 2 ^ j ≤ n → j < size n
size-gt n j h = lt_of_not-le (λ (g : size n ≤ j). not-le_of_lt (lt_of_lt_of_le (size-lt n) (pow_mono g)) h)

pub size_exact : (a n : ℕ) → 2 ^ a ≤ n → n < 2 ^ suc a → size n ≡ suc a
size_exact a n lo hi = le_antisymm (size-le n (suc a) hi) (size-gt n a lo)

-- ---- the bit pattern
-- the pattern that `to_bits` writes for n units
abbrev pub pattern_of : ℕ → ℕ
pattern_of n = (size n - 53) * 2 ^ 52 + n / 2 ^ (size n - 53)

pub pattern-units : (x : Float) → T (positive x) → to_bits binary64 x ≡ pattern_of (units x)
unfolding to_bits
pattern-units nan p = absurd p
pattern-units (inf s) p = absurd p
pattern-units (fin true m e) p = absurd p
pattern-units (fin false m e) p = ap (λ (z : ℕ). z + units (fin false m e) / 2 ^ (size (units (fin false m e)) - 53)) (zero-add ((size (units (fin false m e)) - 53) * 2 ^ 52))

-- so the units tells which value it is
pub units-injective : (x y : Float) → T (fits binary64 x) → T (fits binary64 y) → T (positive x) → T (positive y) → units x ≡ units y → x ≡ y
units-injective x y f g p q h = sym (of_bits-to_bits binary64 x f) ∙ ap (of_bits binary64) (pattern-units x p ∙ ap pattern_of h ∙ sym (pattern-units y q)) ∙ of_bits-to_bits binary64 y g

-- a number of the grid is cut without a rest
pub cut : (n : ℕ) → Grid n → n / 2 ^ (size n - 53) * 2 ^ (size n - 53) ≡ n
cut n g =
    let m = g.digits in
    let j = g.zeros in
    let k = size n - 53 in
    let le : k ≤ j = spare (size n) j (size-le n (53 + j) (subst (λ (z : ℕ). z < 2 ^ (53 + j)) (sym g.made) (shl_lt 53 j g.few))) in
    let is : n ≡ m * 2 ^ (j - k) * 2 ^ k = g.made ∙ ap (λ (z : ℕ). m * z) (ap (λ (z : ℕ). 2 ^ z) (sym (back j k le)) ∙ pow-add 2 (j - k) k) ∙ sym (mul_assoc m (2 ^ (j - k)) (2 ^ k)) in
    ap (λ (z : ℕ). z * 2 ^ k) (ap (λ (z : ℕ). z / 2 ^ k) is ∙ mul-div_cancel (m * 2 ^ (j - k)) (pow_pos k)) ∙ sym is
  where
    spare : (z j : ℕ) → z ≤ 53 + j → z - 53 ≤ j
    spare z j h = omega arith

-- from 2 ^ 52 on, 53 digits are kept
kept-ge : (n : ℕ) → 2 ^ 52 ≤ n → 2 ^ 52 ≤ n / 2 ^ (size n - 53)
kept-ge n h =
    let k = size n - 53 in
    (le-div_iff_mul-le (pow_pos k)).1 (le_trans (le_of_eq (sym (pow-add 2 52 k))) (size_reaches n (52 + k) (in_use (size n) (size-gt n 52 h))))
  where
    in_use : (z : ℕ) → 52 < z → 52 + (z - 53) < z
    in_use z g = omega arith

-- reading the pattern of a number of the grid gives it back
pub units_of-pattern : (n : ℕ) → Grid n → units_of (pattern_of n) ≡ n
unfolding units_of
units_of-pattern n g = go (ltb n (2 ^ 52)) (ltb→lt n (2 ^ 52)) (nltb→le n (2 ^ 52))
  where
    low : n < 2 ^ 52 → pattern_of n ≡ n
    low h = ap (λ (k : ℕ). k * 2 ^ 52 + n / 2 ^ k) (none (size n) (size-le n 52 h)) ∙ zero-add (n / 1) ∙ div-one n
      where
        none : (z : ℕ) → z ≤ 52 → z - 53 ≡ 0
        none z h = omega arith

    normal : (k q : ℕ) → q < 2 ^ 53 → 2 ^ 52 ≤ q →
        cond (ltb (k * 2 ^ 52 + q) (2 ^ 52)) (k * 2 ^ 52 + q) ((2 ^ 52 + (k * 2 ^ 52 + q) % 2 ^ 52) * 2 ^ ((k * 2 ^ 52 + q) / 2 ^ 52 - 1)) ≡ q * 2 ^ k
    normal k q h l =
        let e : 2 ^ 52 + (k * 2 ^ 52 + q) % 2 ^ 52 ≡ q = omega arith in
        let f : (k * 2 ^ 52 + q) / 2 ^ 52 - 1 ≡ k = omega arith in
        ap (λ (b : Bool). cond b (k * 2 ^ 52 + q) ((2 ^ 52 + (k * 2 ^ 52 + q) % 2 ^ 52) * 2 ^ ((k * 2 ^ 52 + q) / 2 ^ 52 - 1))) (le-ltb (k * 2 ^ 52 + q) (2 ^ 52) (omega arith))
        ∙ ap (λ (z : ℕ). z * 2 ^ ((k * 2 ^ 52 + q) / 2 ^ 52 - 1)) e ∙ ap (λ (z : ℕ). q * 2 ^ z) f

    go : (b : Bool) → (T b → n < 2 ^ 52) → (T (not b) → 2 ^ 52 ≤ n) → units_of (pattern_of n) ≡ n
    go true y z = ap units_of (low (y tt)) ∙ ap (λ (b : Bool). cond b n ((2 ^ 52 + n % 2 ^ 52) * 2 ^ (n / 2 ^ 52 - 1))) (lt-ltb n (2 ^ 52) (y tt))
    go false y z = normal (size n - 53) (n / 2 ^ (size n - 53)) (kept-lt 53 n) (kept-ge n (z tt)) ∙ cut n g

pub units_of-bits : (x : Float) → T (fits binary64 x) → T (positive x) → units_of (to_bits binary64 x) ≡ units x
units_of-bits x h p = ap units_of (pattern-units x p) ∙ units_of-pattern (units x) (units-grid x h (positive-finite x p))

-- the pattern of q * 2 ^ k units, with all 53 digits of q in use
pub pattern-normal : (q k : ℕ) → 2 ^ 52 ≤ q → q < 2 ^ 53 → pattern_of (q * 2 ^ k) ≡ k * 2 ^ 52 + q
pattern-normal q k l h =
    let lo : 2 ^ (52 + k) ≤ q * 2 ^ k = le_trans (le_of_eq (pow-add 2 52 k)) (mul-le-mul_right (2 ^ k) l) in
    let hi : q * 2 ^ k < 2 ^ suc (52 + k) = subst (λ (z : ℕ). q * 2 ^ k < 2 ^ z) (one_more k) (shl_lt 53 k h) in
    ap (λ (z : ℕ). (z - 53) * 2 ^ 52 + q * 2 ^ k / 2 ^ (z - 53)) (size_exact (52 + k) (q * 2 ^ k) lo hi)
    ∙ ap (λ (z : ℕ). z * 2 ^ 52 + q * 2 ^ k / 2 ^ z) (drop k) ∙ ap (λ (z : ℕ). k * 2 ^ 52 + z) (mul-div_cancel q (pow_pos k))
  where
    one_more : (k : ℕ) → 53 + k ≡ suc (52 + k)
    one_more k = omega arith

    drop : (k : ℕ) → suc (52 + k) - 53 ≡ k
    drop k = omega arith

-- ---- the value q * 2 ^ k units, written as `root` writes it
pub made-units : (q k : ℕ) → units (odd 54 false q k 1074) ≡ q * 2 ^ k
made-units q k = units-is (odd 54 false q k 1074) false (q * 2 ^ k) (odd_sign 54 false q k 1074)

pub made-positive : (q k : ℕ) → 0 < q → T (positive (odd 54 false q k 1074))
made-positive q k h = positive_of_value (odd 54 false q k 1074) (q * 2 ^ k) (2 ^ 1074) (odd_sign 54 false q k 1074) (mul-pos h (pow_pos k))

pub made-fits : (q k : ℕ) → q ≤ 2 ^ 53 → k ≤ 2000 → T (fits binary64 (odd 54 false q k 1074))
made-fits q k h l = odd-fits binary64 54 false q k (lt_of_le_of_lt h (lit< tt)) h
    (lt_of_le_of_lt (mul-le-mul_right (2 ^ k) h) (subst (λ (z : ℕ). z < 2 ^ 2098) (pow-add 2 53 k) (pow-lt (room k l))))
  where
    room : (k : ℕ) → k ≤ 2000 → 53 + k < 2098
    room k l = omega arith

-- what is read from the pattern
pub made_bits : (q k : ℕ) → 2 ^ 52 ≤ q → q < 2 ^ 53 → k ≤ 2000 → of_bits binary64 (k * 2 ^ 52 + q) ≡ odd 54 false q k 1074
made_bits q k l h r =
    let v = odd 54 false q k 1074 in
    ap (of_bits binary64) (sym (pattern-units v (made-positive q k (lt_of_lt_of_le (lit< tt) l)) ∙ ap pattern_of (made-units q k) ∙ pattern-normal q k l h))
    ∙ of_bits-to_bits binary64 v (made-fits q k (le_of_lt h) r)
