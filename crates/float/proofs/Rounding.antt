-- Rounding. A value that fits is its own rounding (`round-own`), and rounding keeps the order of signed fractions (`round-le`),
-- in either format, subnormal results and overflow to an infinity included.
use mathlib.Core.Path.{◌≡◌, refl, sym, ap, ◌∙◌, subst, subst₂}
use mathlib.Core.Bool.{Bool, true, false, cond}
use Prim.Native.Nat.{ℕ, zero, suc, ◌+◌, ◌-◌, ◌*◌, ◌^◌, ◌≤◌, ◌<◌, zero-le}
use native.Mathlib.Nat.{le_trans as le-trans-ℕ, le_of_eq, zero-lt-suc, mul-one, one-mul, zero-mul, mul_comm}
use native.Mathlib.Nat.{mul_assoc, mul_right_comm, mul-lt-mul_of_pos_right, lt_of_mul-lt-mul_right}
use native.Mathlib.Omega.{arith}
use lib.IntN.{ℤ, pos, negsuc}
use lib.Dec.{T, ltb}
use lib.Pow.{pow-add, pow_pos}
use lib.Ieee.{Float, inf, fin, Format, prec, emax, low, up, down, odd, units, round, neg, le, fits}
use lib.Ieee.Digits.{back}
use lib.Ieee.Fits.{down_pos, round_is, round-fits}
use lib.Ieee.Exact.{HasValue, round_exact}
use lib.Ieee.Scale.{round_same}
use lib.Ieee.Order.{drop, kept, round_mono}
use Rattle.float.specs.Value.{SignedLe}
use Rattle.float.proofs.{Value.depth, Value.first-zero, Value.fitting, Value.unique, Value.zero_of, Value.zero-fits, Units.depth_le}
use Rattle.float.proofs.Order.{le_trans, neg-le}

-- ---- a value that fits is its own rounding
-- 2 ^ e is 2 ^ j units of the format's smallest value
unit : (l : ℕ) (s : Bool) (m : ℕ) (e : ℤ) → depth (fin s m e) ≤ l → (j : ℕ) × (up e * 2 ^ l ≡ 2 ^ j * down e)
unit l s m (pos k) h = (k + l, sym (pow-add 2 k l) ∙ sym (mul-one (2 ^ (k + l))))
unit l s m (negsuc k) h = (l - suc k, one-mul (2 ^ l) ∙ ap (λ (x : ℕ). 2 ^ x) (sym (back l (suc k) h)) ∙ pow-add 2 (l - suc k) (suc k))

-- what is below 2 ^ (emax + 1) is fewer than 2 ^ (low + emax + 1) units
in-units : (f : Format) (m u d j : ℕ) → u * 2 ^ low f ≡ 2 ^ j * d → m * u < 2 ^ suc (emax f) * d → m * 2 ^ j < 2 ^ (low f + suc (emax f))
in-units f m u d j h k =
    let l = 2 ^ low f in
    let t = 2 ^ suc (emax f) in
    let left : m * u * l ≡ m * 2 ^ j * d = mul_assoc m u l ∙ ap (λ (x : ℕ). m * x) h ∙ sym (mul_assoc m (2 ^ j) d) in
    let right : t * d * l ≡ 2 ^ (low f + suc (emax f)) * d = mul_right_comm t d l ∙ ap (λ (x : ℕ). x * d) (mul_comm t l ∙ sym (pow-add 2 (low f) (suc (emax f)))) in
    lt_of_mul-lt-mul_right d (subst₂ ◌<◌ left right (mul-lt-mul_of_pos_right k (pow_pos (low f))))

-- `round` of 0 has the value 0
zero-exact : (f : Format) (s : Bool) (c : ℕ) → 0 < c → HasValue (round f s 0 c) s 0 c
zero-exact f s c C =
    round_exact f s 0 c 0 0 C (pow_pos (prec f)) (subst (λ (x : ℕ). x < 2 ^ (low f + suc (emax f))) (sym (zero-mul (2 ^ 0))) (pow_pos (low f + suc (emax f))))
    (zero-mul (2 ^ low f) ∙ sym (zero-mul c) ∙ ap (λ (x : ℕ). x * c) (sym (zero-mul (2 ^ 0))))

-- `round` at the fraction by which a value that fits is written
own-exact : (f : Format) (s : Bool) (m : ℕ) (e : ℤ) → T (fits f (fin s m e)) → HasValue (round f s (m * up e) (down e)) s (m * up e) (down e)
own-exact f s zero e p = subst (λ (x : ℕ). HasValue (round f s x (down e)) s x (down e)) (sym (zero-mul (up e))) (zero-exact f s (down e) (down_pos e))
own-exact f s (suc m) e p =
    let w = fitting f s m e p in
    let j = unit (low f) s (suc m) e (depth_le f (fin s (suc m) e) p) in
    round_exact f s (suc m * up e) (down e) (suc m) j.0 (down_pos e) w.few-digits (in-units f (suc m) (up e) (down e) j.0 j.1 w.not-large)
    (mul_assoc (suc m) (up e) (2 ^ low f) ∙ ap (λ (x : ℕ). suc m * x) j.1 ∙ sym (mul_assoc (suc m) (2 ^ j.0) (down e)))

-- A value that fits is what any fraction that it equals rounds to.
pub round-own : (f : Format) (x : Float) (s : Bool) (a c : ℕ) → 0 < c → T (fits f x) → HasValue x s a c → round f s a c ≡ x
round-own f lib.Ieee.nan s a c C p v = elim v [ ]
round-own f (inf _) s a c C p v = elim v [ ]
round-own f (fin t m e) s a c C p v = round_same f s a c (m * up e) (down e) C (down_pos e) (sym v.1)
    ∙ ap (λ (b : Bool). round f b (m * up e) (down e)) (sym v.0)
    ∙ unique f (round f t (m * up e) (down e)) (fin t m e) t (m * up e) (down e) (down_pos e) (round-fits f t (m * up e) (down e)) p (own-exact f t m e p) (refl, refl)

-- ---- zeros
pub round-zero : (f : Format) (s : Bool) (c : ℕ) → 0 < c → round f s 0 c ≡ zero_of s
round-zero f s c C = round-own f (zero_of s) s 0 c C (zero-fits f s) (refl, zero-mul c)

-- ---- the two signs
odd-neg : (d q k l : ℕ) → odd d true q k l ≡ neg (odd d false q k l)
unfolding odd neg
odd-neg d zero k l = refl
odd-neg d (suc q) k l = refl

units-neg : (f : Format) (q k : ℕ) → units f true q k ≡ neg (units f false q k)
unfolding units
units-neg f q k = go (ltb (q * 2 ^ k) (2 ^ (low f + suc (emax f))))
  where
    go : (b : Bool) → cond b (odd (suc (prec f)) true q k (low f)) (inf true) ≡ neg (cond b (odd (suc (prec f)) false q k (low f)) (inf false))
    go true = odd-neg (suc (prec f)) q k (low f)
    go false = unfold neg in refl

-- the negative of a fraction rounds to the negative of what the fraction rounds to
pub round-neg : (f : Format) (a c : ℕ) → round f true a c ≡ neg (round f false a c)
round-neg f a c =
    let n = a * 2 ^ low f in round_is f true a c ∙ units-neg f (kept (prec f) n c) (drop (prec f) n c) ∙ ap neg (sym (round_is f false a c))

-- ---- rounding keeps the order of signed fractions
both_negative : (f : Format) (a c b d : ℕ) → 0 < c → 0 < d → b * c ≤ a * d → T (le (round f true a c) (round f true b d))
both_negative f a c b d C D h =
    subst₂ (λ (y z : Float). T (le y z)) (sym (round-neg f a c)) (sym (round-neg f b d)) (neg-le (round f false b d) (round f false a c) (round_mono f b d a c D C h))

-- a fraction that is not negative rounds to +0 or more, and one that is not positive to -0 or less
pub round-nonneg : (f : Format) (a c : ℕ) → 0 < c → T (le (zero_of false) (round f false a c))
round-nonneg f a c C =
    subst (λ (z : Float). T (le z (round f false a c))) (round-zero f false 1 (zero-lt-suc 0)) (round_mono f 0 1 a c (zero-lt-suc 0) C (le-trans-ℕ (le_of_eq (zero-mul c)) zero-le))

pub round-nonpos : (f : Format) (a c : ℕ) → 0 < c → T (le (round f true a c) (zero_of true))
round-nonpos f a c C =
    subst (λ (z : Float). T (le (round f true a c) z)) (round-zero f true 1 (zero-lt-suc 0)) (both_negative f a c 0 1 C (zero-lt-suc 0) (le-trans-ℕ (le_of_eq (zero-mul c)) zero-le))

zeros : (s t : Bool) → T (le (zero_of s) (zero_of t))
unfolding le
zeros true true = tt
zeros true false = tt
zeros false true = tt
zeros false false = tt

-- Of two signed fractions ±a / c ≤ ±b / d the first rounds to no more than the second.
pub round-le : (f : Format) (s : Bool) (a c : ℕ) (t : Bool) (b d : ℕ) → 0 < c → 0 < d → SignedLe s (a * d) t (b * c) → T (le (round f s a c) (round f t b d))
round-le f false a c false b d C D h = round_mono f a c b d C D (omega arith)
round-le f true a c true b d C D h = both_negative f a c b d C D (omega arith)
round-le f true a c false b d C D h =
    le_trans (round f true a c) (zero_of true) (round f false b d) (round-nonpos f a c C) (le_trans (zero_of true) (zero_of false) (round f false b d) (zeros true false) (round-nonneg f b d D))
round-le f false a c true b d C D h =
    let p : a * d ≡ 0 = omega arith in
    let q : b * c ≡ 0 = omega arith in rw (first-zero a d D p, first-zero b c C q, round-zero f false c C, round-zero f true d D) (zeros false true)
