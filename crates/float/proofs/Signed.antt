-- ±a ≤ ±b is an order of whole numbers with a sign, and the tests `below` and `level` of the toolchain are its `<` and its equality.
use mathlib.Core.Path.{◌≡◌, refl, sym, ap₂, ◌∙◌, subst, transport}
use mathlib.Core.Logic.{◌⊎◌, inl, inr, ◌↔◌}
use mathlib.Core.Bool.{Bool, true, false, not, ◌&&◌, ◌||◌}
use Prim.Native.Nat.{ℕ, ◌+◌, ◌*◌, ◌≤◌, ◌<◌}
use native.Mathlib.Nat.{le_refl, le_of_lt, lt_of_not-le, not-le_of_lt, zero-mul, add-mul, mul-le-mul_right, le_of_mul-le-mul_right}
use native.Mathlib.Omega.{arith}
use lib.Dec.{T, eqb, ltb→lt, lt→ltb, eqb→eq}
use lib.Ieee.{below, level}
use lib.Ieee.Fits.{and_i, and_l, and_r, eq→eqb}
use Rattle.float.specs.Value.{gain, SignedLe}
use Rattle.float.proofs.Tests.{or_l, or_r, or_split, either_way}

pub signed-refl : (s : Bool) (a : ℕ) → SignedLe s a s a
signed-refl s a = le_refl (gain s a + gain (not s) a)

pub signed-trans : (s : Bool) (a : ℕ) (t : Bool) (b : ℕ) (u : Bool) (c : ℕ) → SignedLe s a t b → SignedLe t b u c → SignedLe s a u c
signed-trans s a t b u c h k = omega arith

-- of two one is no more than the other, and else it is above it
pub signed-way : (s : Bool) (a : ℕ) (t : Bool) (b : ℕ) → SignedLe s a t b ⊎ (SignedLe s a t b → ⊥)
signed-way s a t b = elim (either_way (gain s a + gain (not t) b) (gain t b + gain (not s) a)) [ inl h ↦ inl h | inr h ↦ inr (λ k. not-le_of_lt h k) ]

pub signed-total : (s : Bool) (a : ℕ) (t : Bool) (b : ℕ) → (SignedLe t b s a → ⊥) → SignedLe s a t b
signed-total s a t b h = le_of_lt (lt_of_not-le h)

pub signed-neg : (s : Bool) (a : ℕ) (t : Bool) (b : ℕ) → SignedLe s a t b → SignedLe (not t) b (not s) a
signed-neg false a false b h = omega arith
signed-neg false a true b h = omega arith
signed-neg true a false b h = omega arith
signed-neg true a true b h = omega arith

-- ---- a factor on both sides
gain-mul : (s : Bool) (a k : ℕ) → gain s (a * k) ≡ gain s a * k
gain-mul false a k = refl
gain-mul true a k = sym (zero-mul k)

gains-mul : (s : Bool) (a : ℕ) (t : Bool) (b k : ℕ) → gain s (a * k) + gain t (b * k) ≡ (gain s a + gain t b) * k
gains-mul s a t b k = ap₂ ◌+◌ (gain-mul s a k) (gain-mul t b k) ∙ sym (add-mul (gain s a) (gain t b) k)

pub signed-scale : (s : Bool) (a : ℕ) (t : Bool) (b k : ℕ) → 0 < k → SignedLe s (a * k) t (b * k) ↔ SignedLe s a t b
signed-scale s a t b k K =
    let l = gains-mul s a (not t) b k in
    let r = gains-mul t b (not s) a k in (
      λ h. le_of_mul-le-mul_right (subst (λ (z : ℕ). z ≤ (gain t b + gain (not s) a) * k) l (subst (λ (z : ℕ). gain s (a * k) + gain (not t) (b * k) ≤ z) r h)) K,
      λ h. subst (λ (z : ℕ). z ≤ gain t (b * k) + gain (not s) (a * k)) (sym l) (subst (λ (z : ℕ). (gain s a + gain (not t) b) * k ≤ z) (sym r) (mul-le-mul_right k h)),
    )

-- A : a and B : b are D : c, so their order is one
pub signed-over : (s' s : Bool) (A a : ℕ) (t' t : Bool) (B b c D : ℕ) → 0 < c → 0 < D → s' ≡ s → t' ≡ t → A * c ≡ a * D → B * c ≡ b * D →
    SignedLe s' A t' B ↔ SignedLe s a t b
signed-over s' s A a t' t B b c D C E i j p q =
    let scaled : SignedLe s' (A * c) t' (B * c) ≡ SignedLe s (a * D) t (b * D) = λ k. SignedLe (i k) (p k) (j k) (q k) in
    (λ h. (signed-scale s a t b D E).0 (transport scaled ((signed-scale s' A t' B c C).1 h)), λ h. (signed-scale s' A t' B c C).0 (transport (sym scaled) ((signed-scale s a t b D E).1 h)))

-- ---- the tests
pub below-iff : (s : Bool) (a : ℕ) (t : Bool) (b : ℕ) → T (below s a t b) ↔ (SignedLe t b s a → ⊥)
below-iff false a false b = (λ h k. omega (arith, ltb→lt a b h), λ h. lt→ltb a b (lt_of_not-le (λ k. h (omega arith))))
below-iff false a true b = (λ h k. h, λ h. absurd (h (omega arith)))
below-iff true a false b = (λ h k. omega (arith, ltb→lt 0 (a + b) h), λ h. lt→ltb 0 (a + b) (lt_of_not-le (λ k. h (omega arith))))
below-iff true a true b = (λ h k. omega (arith, ltb→lt b a h), λ h. lt→ltb b a (lt_of_not-le (λ k. h (omega arith))))

-- ±a = ±b
abbrev pub SignedEq : Bool → ℕ → Bool → ℕ → Type 0
SignedEq s a t b = SignedLe s a t b × SignedLe t b s a

-- numbers that are equal, and equal to 0 where their signs differ
equal : (a b : ℕ) → (t : Bool) → a ≡ b → T t → T (eqb a b && t)
equal a b t e h = and_i (eqb a b) t (eq→eqb e) h

is-equal : (a b : ℕ) (t : Bool) → T (eqb a b && t) → a ≡ b
is-equal a b t h = eqb→eq a b (and_l (eqb a b) t h)

is_zero : (a b : ℕ) → T (eqb a b && eqb a 0) → a ≡ 0
is_zero a b h = eqb→eq a 0 (and_r (eqb a b) (eqb a 0) h)

zero_test : (a : ℕ) → a ≡ 0 → T (eqb a 0)
zero_test a e = eq→eqb e

pub level-iff : (s : Bool) (a : ℕ) (t : Bool) (b : ℕ) → T (level s a t b) ↔ SignedEq s a t b
level-iff false a false b = (λ h. let e = is-equal a b true h in (omega arith, omega arith), λ h. equal a b true (omega arith) tt)
level-iff true a true b = (λ h. let e = is-equal a b true h in (omega arith, omega arith), λ h. equal a b true (omega arith) tt)
level-iff false a true b = (λ h. let e = is-equal a b (eqb a 0) h in let z = is_zero a b h in (omega arith, omega arith), λ h. equal a b (eqb a 0) (omega arith) (zero_test a (omega arith)))
level-iff true a false b = (λ h. let e = is-equal a b (eqb a 0) h in let z = is_zero a b h in (omega arith, omega arith), λ h. equal a b (eqb a 0) (omega arith) (zero_test a (omega arith)))

-- `below` or `level` is the order
pub either-iff : (s : Bool) (a : ℕ) (t : Bool) (b : ℕ) → T (below s a t b || level s a t b) ↔ SignedLe s a t b
either-iff s a t b = (to, from)
  where
    to : T (below s a t b || level s a t b) → SignedLe s a t b
    to h = elim (or_split (below s a t b) (level s a t b) h) [ inl p ↦ signed-total s a t b ((below-iff s a t b).0 p) | inr p ↦ ((level-iff s a t b).0 p).0 ]

    from : SignedLe s a t b → T (below s a t b || level s a t b)
    from h = elim (signed-way t b s a) [
      | inl k ↦ or_r (below s a t b) (level s a t b) ((level-iff s a t b).1 (h, k))
      | inr k ↦ or_l (below s a t b) (level s a t b) ((below-iff s a t b).1 k)
    ]
