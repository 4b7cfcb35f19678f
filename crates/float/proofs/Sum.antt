-- Sums. `add` of two finite values is their exact sum, rounded once (`add_at`, `sum_is`), so it grows with each operand (`add-le`), and less is left where something is
-- taken away (`sub-le`). -0 is the neutral element (`add-neg-zero`, `neg-zero-add`): +0 is not, since -0 + +0 is +0.
use mathlib.Core.Path.{◌≡◌, refl, sym, ap, ap₂, ◌∙◌, subst, subst₂}
use mathlib.Core.Bool.{Bool, true, false, not, ◌&&◌, cond}
use Prim.Native.Nat.{ℕ, ◌+◌, ◌-◌, ◌*◌, ◌^◌, ◌≤◌, ◌<◌}
use native.Mathlib.Nat.{not-suc-le-zero, mul_comm, mul_assoc, zero-mul, add-zero, sub-zero, add-mul, mul-sub, not-le_of_lt, mul-le-mul_right, mul-lt-mul_of_pos_right, mul-pos}
use native.Mathlib.Nat as Nat
use native.Mathlib.Omega.{arith}
use lib.Dec.{T, ltb, ltb→lt, nltb→le}
use lib.Pow.{pow_pos}
use lib.Ieee.{Float, nan, inf, fin, Format, up, down, round, sum, add, sub, neg, eq, le, fits, is_nan}
use lib.Ieee.Fits.{down_pos}
use lib.Ieee.Exact.{HasValue}
use lib.Ieee.Scale.{finite, round_same}
use Rattle.float.specs.Value.{gain, SignedLe, sign}
use Rattle.float.proofs.{Nan.finite-no-nan, Signed.signed-scale}
use Rattle.float.proofs.Value.{depth, units_at, value-at, crossed-left, crossed-right, zero_of}
use Rattle.float.proofs.Order.{le-at, right-number, bottom, top, le_refl, neg-le}
use Rattle.float.proofs.Rounding.{round-le, round-own, round-zero}

-- ---- by the fractions that the operands equal
ltb-scale : (a b k : ℕ) → 0 < k → ltb (a * k) (b * k) ≡ ltb a b
ltb-scale a b k K = go (ltb (a * k) (b * k)) (ltb a b) (ltb→lt (a * k) (b * k)) (nltb→le (a * k) (b * k)) (ltb→lt a b) (nltb→le a b)
  where
    go : (p q : Bool) → (T p → a * k < b * k) → (T (not p) → b * k ≤ a * k) → (T q → a < b) → (T (not q) → b ≤ a) → p ≡ q
    go true true h h' i i' = refl
    go false false h h' i i' = refl
    go true false h h' i i' = absurd (not-le_of_lt (h tt) (mul-le-mul_right k (i' tt)))
    go false true h h' i i' = absurd (not-le_of_lt (mul-lt-mul_of_pos_right (i tt) K) (h' tt))

round-scale : (f : Format) (s : Bool) (a c k : ℕ) → 0 < c → 0 < k → round f s (a * k) (c * k) ≡ round f s a c
round-scale f s a c k C K = round_same f s (a * k) (c * k) a c (mul-pos C K) C (simp (mul_assoc, mul_comm))

sub-mul : (a b k : ℕ) → (a - b) * k ≡ a * k - b * k
sub-mul a b k = mul_comm (a - b) k ∙ mul-sub k a b ∙ ap₂ ◌-◌ (mul_comm k a) (mul_comm k b)

-- `sum` sees only the values of its fractions
sum-scale : (f : Format) (s : Bool) (a : ℕ) (t : Bool) (b c k : ℕ) → 0 < c → 0 < k → sum f s (a * k) t (b * k) (c * k) ≡ sum f s a t b c
unfolding sum
sum-scale f s a t b c k C K = rw (
  ltb-scale a b k K,
  ltb-scale b a k K,
  ← add-mul a b k,
  ← sub-mul b a k,
  ← sub-mul a b k,
  round-scale f s (a + b) c k C K,
  round-scale f t (b - a) c k C K,
  round-scale f (s && ltb b a) (a - b) c k C K,
)

-- The sum of any two values is that of two fractions that they equal, over one denominator.
pub add_at : (f : Format) (x y : Float) (s : Bool) (a : ℕ) (t : Bool) (b c : ℕ) → 0 < c → HasValue x s a c → HasValue y t b c → add f x y ≡ sum f s a t b c
unfolding add
add_at f nan y s a t b c C v w = elim v [ ]
add_at f (inf _) y s a t b c C v w = elim v [ ]
add_at f (fin s' m e) nan s a t b c C v w = elim w [ ]
add_at f (fin s' m e) (inf _) s a t b c C v w = elim w [ ]
add_at f (fin s' m e) (fin t' n d) s a t b c C v w =
    let A = m * up e * down d in
    let B = n * up d * down e in
    let D = down e * down d in
    let i : A * c ≡ a * D = crossed-left (m * up e) c a (down e) (down d) v.1 in
    let j : B * c ≡ b * D = crossed-right (n * up d) c b (down e) (down d) w.1 in
    let pos-D : 0 < D = mul-pos (down_pos e) (down_pos d) in
    sym (sum-scale f s' A t' B D c pos-D C) ∙ (λ k. sum f (v.0 k) (i k) (w.0 k) (j k) (mul_comm D c k)) ∙ sum-scale f s a t b c D C pos-D

-- ---- the exact sum
-- ±q is the sum of ±a and ±b
abbrev pub IsSum : Bool → ℕ → Bool → ℕ → Bool → ℕ → Type 0
IsSum r q s a t b = gain r q + (gain (not s) a + gain (not t) b) ≡ gain (not r) q + (gain s a + gain t b)

-- `sum` is the exact sum, rounded
pub sum_is : (f : Format) (s : Bool) (a : ℕ) (t : Bool) (b c : ℕ) → (r : Bool) × (q : ℕ) × (sum f s a t b c ≡ round f r q c) × IsSum r q s a t b
unfolding sum
sum_is f false a false b c = (false, a + b, refl, omega arith)
sum_is f true a true b c = (true, a + b, refl, omega arith)
sum_is f false a true b c = go (ltb a b) (ltb→lt a b) (nltb→le a b)
  where
    go : (p : Bool) → (T p → a < b) → (T (not p) → b ≤ a)
        → (r : Bool) × (q : ℕ) × (cond p (round f true (b - a) c) (round f false (a - b) c) ≡ round f r q c) × IsSum r q false a true b
    go true h k = (true, b - a, refl, omega (arith, h tt))
    go false h k = (false, a - b, refl, omega (arith, k tt))
sum_is f true a false b c = go (ltb a b) (ltb b a) (ltb→lt a b) (nltb→le a b) (ltb→lt b a) (nltb→le b a)
  where
    go : (p p' : Bool) → (T p → a < b) → (T (not p) → b ≤ a) → (T p' → b < a) → (T (not p') → a ≤ b)
        → (r : Bool) × (q : ℕ) × (cond p (round f false (b - a) c) (round f p' (a - b) c) ≡ round f r q c) × IsSum r q true a false b
    go true p' h k h' k' = (false, b - a, refl, omega (arith, h tt))
    go false true h k h' k' = (true, a - b, refl, omega (arith, h' tt))
    go false false h k h' k' = (false, a - b, refl, omega (arith, k tt, k' tt))

-- ---- a sum grows with its operands
pub sum-le : (f : Format) (s : Bool) (a : ℕ) (t : Bool) (b : ℕ) (s' : Bool) (a' : ℕ) (t' : Bool) (b' c : ℕ) → 0 < c
    → SignedLe s a s' a' → SignedLe t b t' b' → T (le (sum f s a t b c) (sum f s' a' t' b' c))
sum-le f s a t b s' a' t' b' c C h k =
    let z = sum_is f s a t b c in
    let z' = sum_is f s' a' t' b' c in
    subst₂ (λ (u u' : Float). T (le u u')) (sym z.2) (sym z'.2)
    (round-le f z.0 z.1 c z'.0 z'.1 c C C ((signed-scale z.0 z.1 z'.0 z'.1 c C).1 (ordered z.0 z.1 z'.0 z'.1 z.3 z'.3)))
  where
    -- two exact sums are in the order of their parts
    ordered : (r : Bool) (q : ℕ) (r' : Bool) (q' : ℕ) → IsSum r q s a t b → IsSum r' q' s' a' t' b' → SignedLe r q r' q'
    ordered r q r' q' i i' = omega arith

add-finite : (f : Format) (x x' y y' : Float) → T (finite x) → T (finite x') → T (finite y) → T (finite y') → T (le x x') → T (le y y') → T (le (add f x y) (add f x' y'))
add-finite f x x' y y' p p' q q' h k =
    let l = depth x + depth x' + (depth y + depth y') in
    let i : depth x ≤ l = omega arith in
    let i' : depth x' ≤ l = omega arith in
    let j : depth y ≤ l = omega arith in
    let j' : depth y' ≤ l = omega arith in
    subst₂ (λ (u u' : Float). T (le u u'))
    (sym (add_at f x y (sign x) (units_at l x) (sign y) (units_at l y) (2 ^ l) (pow_pos l) (value-at l x p i) (value-at l y q j)))
    (sym (add_at f x' y' (sign x') (units_at l x') (sign y') (units_at l y') (2 ^ l) (pow_pos l) (value-at l x' p' i') (value-at l y' q' j')))
    (sum-le f (sign x) (units_at l x) (sign y) (units_at l y) (sign x') (units_at l x') (sign y') (units_at l y') (2 ^ l) (pow_pos l) ((le-at l x x' p p' i i').0 h) ((le-at l y y' q q' j j').0 k))

-- no sum of a finite value and a number is a NaN
add-number : (f : Format) (x y : Float) → T (finite x) → T (not (is_nan y)) → T (not (is_nan (add f x y)))
add-number f nan y p q = absurd p
add-number f (inf s) y p q = absurd p
add-number f (fin s m e) nan p q = absurd (unfold is_nan in q)
add-number f (fin s m e) (inf t) p q = unfold add is_nan in tt
add-number f (fin s m e) (fin t n d) p q =
    let x = fin s m e in
    let y = fin t n d in
    right-number (add f x y) (add f x y) (add-finite f x x y y tt tt tt tt (le_refl x (unfold is_nan in tt)) (le_refl y (unfold is_nan in tt)))

-- A larger operand gives a sum that is no smaller. The left operands are finite: ∞ + -∞ is a NaN.
pub add-le : (f : Format) (x x' y y' : Float) → T (finite x) → T (finite x') → T (le x x') → T (le y y') → T (le (add f x y) (add f x' y'))
unfolding le add
add-le f nan x' y y' p p' h k = absurd p
add-le f (inf s) x' y y' p p' h k = absurd p
add-le f (fin s m e) nan y y' p p' h k = absurd p'
add-le f (fin s m e) (inf s') y y' p p' h k = absurd p'
add-le f (fin s m e) (fin s' m' e') nan y' p p' h k = absurd k
add-le f (fin s m e) (fin s' m' e') (inf true) y' p p' h k = bottom (add f (fin s' m' e') y') (add-number f (fin s' m' e') y' tt (right-number (inf true) y' k))
add-le f (fin s m e) (fin s' m' e') (inf false) nan p p' h k = absurd k
add-le f (fin s m e) (fin s' m' e') (inf false) (inf true) p p' h k = absurd k
add-le f (fin s m e) (fin s' m' e') (inf false) (inf false) p p' h k = tt
add-le f (fin s m e) (fin s' m' e') (inf false) (fin t' n' d') p p' h k = absurd k
add-le f (fin s m e) (fin s' m' e') (fin t n d) nan p p' h k = absurd k
add-le f (fin s m e) (fin s' m' e') (fin t n d) (inf true) p p' h k = absurd k
add-le f (fin s m e) (fin s' m' e') (fin t n d) (inf false) p p' h k = top (add f (fin s m e) (fin t n d)) (add-number f (fin s m e) (fin t n d) tt (unfold is_nan in tt))
add-le f (fin s m e) (fin s' m' e') (fin t n d) (fin t' n' d') p p' h k = add-finite f (fin s m e) (fin s' m' e') (fin t n d) (fin t' n' d') tt tt tt tt h k

-- ---- -0 is neutral
zero_right : (f : Format) (s : Bool) (a c : ℕ) → sum f s a true 0 c ≡ round f s a c
unfolding sum
zero_right f true a c = ap (λ (z : ℕ). round f true z c) (add-zero a)
zero_right f false a c = go (ltb a 0) (ltb→lt a 0)
  where
    go : (p : Bool) → (T p → a < 0) → cond p (round f true (0 - a) c) (round f false (a - 0) c) ≡ round f false a c
    go true h = absurd (not-suc-le-zero (h tt))
    go false h = ap (λ (z : ℕ). round f false z c) (sub-zero a)

pub add-neg-zero : (f : Format) (x : Float) → T (fits f x) → add f x (zero_of true) ≡ x
add-neg-zero f nan p = unfold add in refl
add-neg-zero f (inf s) p = unfold add in refl
add-neg-zero f (fin s m e) p = add_at f (fin s m e) (zero_of true) s (m * up e) true 0 (down e) (down_pos e) (refl, refl) (refl, zero-mul (down e))
    ∙ zero_right f s (m * up e) (down e) ∙ round-own f (fin s m e) s (m * up e) (down e) (down_pos e) p (refl, refl)

-- ---- the operands may change places
swap-signs : (f : Format) (a b c : ℕ) → sum f false a true b c ≡ sum f true b false a c
unfolding sum
swap-signs f a b c = go (ltb a b) (ltb b a) (ltb→lt a b) (nltb→le a b) (ltb→lt b a) (nltb→le b a)
  where
    go : (p q : Bool) → (T p → a < b) → (T (not p) → b ≤ a) → (T q → b < a) → (T (not q) → a ≤ b)
        → cond p (round f true (b - a) c) (round f false (a - b) c) ≡ cond q (round f false (a - b) c) (round f p (b - a) c)
    go true true h h' k k' = absurd (omega (arith, h tt, k tt))
    go true false h h' k k' = refl
    go false true h h' k k' = refl
    go false false h h' k k' = let e : a - b ≡ b - a = omega (arith, h' tt, k' tt) in ap (λ (z : ℕ). round f false z c) e

swap : (f : Format) (s : Bool) (a : ℕ) (t : Bool) (b c : ℕ) → sum f s a t b c ≡ sum f t b s a c
unfolding sum
swap f true a true b c = ap (λ (z : ℕ). round f true z c) (Nat.add_comm a b)
swap f false a false b c = ap (λ (z : ℕ). round f false z c) (Nat.add_comm a b)
swap f true a false b c = sym (swap-signs f b a c)
swap f false a true b c = swap-signs f a b c

pub add_comm : (f : Format) (x y : Float) → add f x y ≡ add f y x
unfolding add
add_comm f nan nan = refl
add_comm f nan (inf t) = refl
add_comm f nan (fin t n d) = refl
add_comm f (inf s) nan = refl
add_comm f (inf true) (inf true) = refl
add_comm f (inf true) (inf false) = refl
add_comm f (inf false) (inf true) = refl
add_comm f (inf false) (inf false) = refl
add_comm f (inf s) (fin t n d) = refl
add_comm f (fin s m e) nan = refl
add_comm f (fin s m e) (inf t) = refl
add_comm f (fin s m e) (fin t n d) =
    swap f s (m * up e * down d) t (n * up d * down e) (down e * down d) ∙ ap (λ (z : ℕ). sum f t (n * up d * down e) s (m * up e * down d) z) (mul_comm (down e) (down d))

pub neg-zero-add : (f : Format) (x : Float) → T (fits f x) → add f (zero_of true) x ≡ x
neg-zero-add f x p = add_comm f (zero_of true) x ∙ add-neg-zero f x p

-- ---- what is taken away
-- Less w, which is not negative, x is no more than x: where the difference is rounded, or is -∞, too.
pub sub-le : (f : Format) (x w : Float) → T (fits f x) → T (finite x) → T (le (zero_of false) w) → T (le (sub f x w) x)
unfolding sub
sub-le f x w p q h = subst (λ (z : Float). T (le (add f x (neg w)) z)) (add-neg-zero f x p)
    (add-le f x x (neg w) (zero_of true) q q (le_refl x (finite-no-nan x q)) (unfold neg in neg-le (zero_of false) w h))

-- x - x is 0 where x is finite, and a NaN elsewhere
opposites : (r : Bool) (q : ℕ) (s : Bool) (a : ℕ) → IsSum r q s a (not s) a → q ≡ 0
opposites true q true a h = omega arith
opposites true q false a h = omega arith
opposites false q true a h = omega arith
opposites false q false a h = omega arith

zero-equals : (r : Bool) → eq (zero_of r) (zero_of false) ≡ true
unfolding eq
zero-equals true = refl
zero-equals false = refl

pub finite-test : (f : Format) (x : Float) → eq (sub f x x) (zero_of false) ≡ finite x
unfolding sub neg
finite-test f nan = unfold add eq in refl
finite-test f (inf true) = unfold add eq in refl
finite-test f (inf false) = unfold add eq in refl
finite-test f (fin s m e) =
    let a = m * up e in
    let c = down e in
    let z = sum_is f s a (not s) a c in
    ap (λ (u : Float). eq u (zero_of false)) (add_at f (fin s m e) (fin (not s) m e) s a (not s) a c (down_pos e) (refl, refl) (refl, refl)
    ∙ z.2 ∙ ap (λ (q : ℕ). round f z.0 q c) (opposites z.0 z.1 s a z.3) ∙ round-zero f z.0 c (down_pos e)) ∙ zero-equals z.0
