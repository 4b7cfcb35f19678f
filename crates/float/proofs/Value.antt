-- The value of a float: every finite one is a fraction with a power of two for its denominator, so any few of them have values over one denominator.
-- A value that fits a format is written in one way (`unique`).
use mathlib.Core.Path.{◌≡◌, refl, sym, ap, ◌∙◌, subst}
use mathlib.Core.Bool.{Bool, ◌&&◌}
use Prim.Native.Nat.{ℕ, zero, suc, ◌-◌, ◌*◌, ◌%◌, ◌^◌, ◌≤◌, ◌<◌}
use native.Mathlib.Nat.{lt_irrefl, sub-zero, zero-lt-suc, mul-one, one-mul, zero-mul, mul_comm, mul_assoc, mul_left_comm}
use native.Mathlib.Nat.{mul_right_comm, mul-pos, eq_of_mul-eq-mul_right, pow-succ', pow-suc}
use native.Mathlib.Omega.{arith}
use lib.IntN.{ℤ, pos, negsuc}
use lib.Dec.{T, leb, ltb, eqb, leb→le, ltb→lt, eqb→eq}
use lib.Pow.{pow-add, pow_pos}
use lib.Ieee.{Float, nan, inf, fin, Format, prec, emax, low, up, down, fits}
use lib.Ieee.Digits.{back}
use lib.Ieee.Fits.{and_l, and_r, down_pos, up_pos}
use lib.Ieee.Exact.{HasValue}
use lib.Ieee.Scale.{finite}
use lib.Ieee.Positive.{num}
use Rattle.float.specs.Value.{sign}

-- ---- over one denominator
-- how many binary digits x has behind the point
abbrev pub depth : Float → ℕ
depth nan = 0
depth (inf s) = 0
depth (fin s m (pos k)) = 0
depth (fin s m (negsuc k)) = suc k

-- a finite x is ±a / 2 ^ l for an l of its depth at least, with the a
abbrev pub units_at : ℕ → Float → ℕ
units_at l x = num x * 2 ^ (l - depth x)

pub value-at : (l : ℕ) (x : Float) → T (finite x) → depth x ≤ l → HasValue x (sign x) (units_at l x) (2 ^ l)
value-at l nan t h = absurd t
value-at l (inf s) t h = absurd t
value-at l (fin s m (pos k)) t h = (refl, ap (λ (z : ℕ). m * 2 ^ k * 2 ^ z) (sym (sub-zero l)) ∙ sym (mul-one (m * 2 ^ k * 2 ^ (l - 0))))
value-at l (fin s m (negsuc k)) t h =
    (refl, ap (λ (z : ℕ). m * 1 * z) (ap (λ (z : ℕ). 2 ^ z) (sym (back l (suc k) h)) ∙ pow-add 2 (l - suc k) (suc k)) ∙ sym (mul_assoc (m * 1) (2 ^ (l - suc k)) (2 ^ suc k)))

-- ±a / c and ±b / c, over the product of the denominators by which two values are written
pub crossed-left : (X c a e d : ℕ) → X * c ≡ a * e → X * d * c ≡ a * (e * d)
crossed-left X c a e d h = mul_right_comm X d c ∙ ap (λ (z : ℕ). z * d) h ∙ mul_assoc a e d

pub crossed-right : (Y c b e d : ℕ) → Y * c ≡ b * d → Y * e * c ≡ b * (e * d)
crossed-right Y c b e d h = crossed-left Y c b d e h ∙ ap (λ (z : ℕ). b * z) (mul_comm d e)

-- another fraction of the same size
pub value_same : (x : Float) (s : Bool) (a c b d : ℕ) → 0 < c → a * d ≡ b * c → HasValue x s a c → HasValue x s b d
value_same nan s a c b d C h v = elim v [ ]
value_same (inf _) s a c b d C h v = elim v [ ]
value_same (fin t m e) s a c b d C h v = (
  v.0,
  eq_of_mul-eq-mul_right c C (m * up e * d) (b * down e)
      (mul_right_comm (m * up e) d c ∙ ap (λ (z : ℕ). z * d) v.1 ∙ mul_right_comm a (down e) d ∙ ap (λ (z : ℕ). z * down e) h ∙ mul_right_comm b c (down e)),
)

pub first-zero : (a d : ℕ) → 0 < d → a * d ≡ 0 → a ≡ 0
first-zero a d D h = eq_of_mul-eq-mul_right d D a 0 (h ∙ sym (zero-mul d))

-- ---- what `fits` says of a finite value other than zero
pub record Fitting (f : Format) (m : ℕ) (e : ℤ) : Type 0 where
  pub odd-digits : m % 2 ≡ 1
  pub few-digits : m < 2 ^ prec f
  pub not-fine : down e ≤ 2 ^ low f
  pub not-large : m * up e < 2 ^ suc (emax f) * down e

pub fitting : (f : Format) (s : Bool) (m : ℕ) (e : ℤ) → T (fits f (fin s (suc m) e)) → Fitting f (suc m) e
unfolding fits
fitting f s m e t =
    let a : Bool = eqb (suc m % 2) 1 in
    let b : Bool = ltb (suc m) (2 ^ prec f) in
    let c : Bool = leb (down e) (2 ^ low f) in
    let d : Bool = ltb (suc m * up e) (2 ^ suc (emax f) * down e) in
    record {
      odd-digits = eqb→eq (suc m % 2) 1 (and_l a b (and_l (a && b) c (and_l (a && b && c) d t)));
      few-digits = ltb→lt (suc m) (2 ^ prec f) (and_r a b (and_l (a && b) c (and_l (a && b && c) d t)));
      not-fine = leb→le (down e) (2 ^ low f) (and_r (a && b) c (and_l (a && b && c) d t));
      not-large = ltb→lt (suc m * up e) (2 ^ suc (emax f) * down e) (and_r (a && b && c) d t);
    }

-- and of a zero
two_up : (p : ℕ) → 0 < p → 2 * p ≡ 1 → ⊥
two_up p h e = omega arith

flat : (e : ℤ) → up e * down e ≡ 1 → e ≡ pos 0
flat (pos zero) h = refl
flat (pos (suc k)) h = absurd (two_up (2 ^ k) (pow_pos k) (sym (pow-succ' 2 k) ∙ sym (mul-one (2 ^ suc k)) ∙ h))
flat (negsuc k) h = absurd (two_up (2 ^ k) (pow_pos k) (sym (pow-succ' 2 k) ∙ sym (one-mul (2 ^ suc k)) ∙ h))

pub zero_exponent : (f : Format) (s : Bool) (e : ℤ) → T (fits f (fin s zero e)) → e ≡ pos 0
unfolding fits
zero_exponent f s e t = flat e (eqb→eq (up e * down e) 1 t)

-- the sign does not matter to it
pub sign_fits : (f : Format) (s t : Bool) (m : ℕ) (e : ℤ) → T (fits f (fin s m e)) → T (fits f (fin t m e))
unfolding fits
sign_fits f s t zero e p = p
sign_fits f s t (suc m) e p = p

-- ---- zeros
abbrev pub zero_of : Bool → Float
zero_of s = fin s 0 (pos 0)

pub zero-fits : (f : Format) (s : Bool) → T (fits f (zero_of s))
unfolding fits
zero-fits f s = tt

-- ---- a value that fits is written in one way
even_odd : (m t : ℕ) → m % 2 ≡ 1 → m ≡ 2 * t → ⊥
even_odd m t o h = omega arith

odd_pow : (m n a b : ℕ) → m % 2 ≡ 1 → n % 2 ≡ 1 → m * 2 ^ a ≡ n * 2 ^ b → (m ≡ n) × (a ≡ b)
odd_pow m n zero zero o p h = (sym (mul-one m) ∙ h ∙ mul-one n, refl)
odd_pow m n zero (suc b) o p h = absurd (even_odd m (n * 2 ^ b) o (sym (mul-one m) ∙ h ∙ ap (λ (x : ℕ). n * x) (pow-succ' 2 b) ∙ mul_left_comm n 2 (2 ^ b)))
odd_pow m n (suc a) zero o p h = absurd (even_odd n (m * 2 ^ a) p (sym (mul-one n) ∙ sym h ∙ ap (λ (x : ℕ). m * x) (pow-succ' 2 a) ∙ mul_left_comm m 2 (2 ^ a)))
odd_pow m n (suc a) (suc b) o p h =
    let r = odd_pow m n a b o p (eq_of_mul-eq-mul_right 2 (zero-lt-suc 1) (m * 2 ^ a) (n * 2 ^ b)
    (mul_assoc m (2 ^ a) 2 ∙ ap (λ (x : ℕ). m * x) (sym (pow-suc 2 a)) ∙ h ∙ ap (λ (x : ℕ). n * x) (pow-suc 2 b) ∙ sym (mul_assoc n (2 ^ b) 2))) in
    (r.0, ap suc r.1)

-- odd m and n with m * 2 ^ e = n * 2 ^ d
same-exponent : (m : ℕ) (e : ℤ) (n : ℕ) (d : ℤ) → m % 2 ≡ 1 → n % 2 ≡ 1 → m * up e * down d ≡ n * up d * down e → (m ≡ n) × (e ≡ d)
same-exponent m (pos j) n (pos k) o p h = let r = odd_pow m n j k o p (sym (mul-one (m * 2 ^ j)) ∙ h ∙ mul-one (n * 2 ^ k)) in (r.0, ap pos r.1)
same-exponent m (pos j) n (negsuc k) o p h = absurd (even_odd n (m * 2 ^ j * 2 ^ k) p
    (simp (mul-one) at (sym h) ∙ ap (λ (x : ℕ). m * 2 ^ j * x) (pow-succ' 2 k) ∙ mul_left_comm (m * 2 ^ j) 2 (2 ^ k)))
same-exponent m (negsuc j) n (pos k) o p h = absurd
    (even_odd m (n * 2 ^ k * 2 ^ j) o (simp (mul-one) at h ∙ ap (λ (x : ℕ). n * 2 ^ k * x) (pow-succ' 2 j) ∙ mul_left_comm (n * 2 ^ k) 2 (2 ^ j)))
same-exponent m (negsuc j) n (negsuc k) o p h =
    let r = odd_pow m n (suc k) (suc j) o p (simp (mul-one) at h) in
    let q : j ≡ k = omega (arith, r.1) in (r.0, ap negsuc q)

-- a zero equals no value other than zero
not-both : (m : ℕ) (e d : ℤ) → zero * up e * down d ≡ suc m * up d * down e → ⊥
not-both m e d h =
    lt_irrefl 0 (subst (λ (x : ℕ). 0 < x) (sym h ∙ ap (λ (x : ℕ). x * down d) (zero-mul (up e)) ∙ zero-mul (down d)) (mul-pos (mul-pos (zero-lt-suc m) (up_pos d)) (down_pos e)))

-- x and y have the value a / c
same-cross : (X Y dx dy a c : ℕ) → 0 < c → X * c ≡ a * dx → Y * c ≡ a * dy → X * dy ≡ Y * dx
same-cross X Y dx dy a c C h k = eq_of_mul-eq-mul_right c C (X * dy) (Y * dx) (crossed-left X c a dx dy h ∙ sym (crossed-right Y c a dx dy k))

-- Two values that fit one format, and have one sign and one size, are the same value.
pub unique : (f : Format) (x y : Float) (s : Bool) (a c : ℕ) → 0 < c → T (fits f x) → T (fits f y) → HasValue x s a c → HasValue y s a c → x ≡ y
unique f nan y s a c C p q v w = elim v [ ]
unique f (inf _) y s a c C p q v w = elim v [ ]
unique f (fin t zero e) nan s a c C p q v w = elim w [ ]
unique f (fin t zero e) (inf _) s a c C p q v w = elim w [ ]
unique f (fin t (suc m) e) nan s a c C p q v w = elim w [ ]
unique f (fin t (suc m) e) (inf _) s a c C p q v w = elim w [ ]
unique f (fin t zero e) (fin u zero d) s a c C p q v w = λ i. fin ((v.0 ∙ sym w.0) i) zero ((zero_exponent f t e p ∙ sym (zero_exponent f u d q)) i)
unique f (fin t zero e) (fin u (suc n) d) s a c C p q v w = absurd (not-both n e d (same-cross (zero * up e) (suc n * up d) (down e) (down d) a c C v.1 w.1))
unique f (fin t (suc m) e) (fin u zero d) s a c C p q v w = absurd (not-both m d e (same-cross (zero * up d) (suc m * up e) (down d) (down e) a c C w.1 v.1))
unique f (fin t (suc m) e) (fin u (suc n) d) s a c C p q v w =
    let r = same-exponent (suc m) e (suc n) d (fitting f t m e p).odd-digits (fitting f u n d q).odd-digits (same-cross (suc m * up e) (suc n * up d) (down e) (down d) a c C v.1 w.1) in
    λ i. fin ((v.0 ∙ sym w.0) i) (r.0 i) (r.1 i)
