-- What the tests of `float::max` and `axis_sign` say of their arguments; and the sign of a pattern.
use mathlib.Core.Path.{◌≡◌, refl, sym, ap, ap₂, ◌∙◌, subst}
use Prim.Native.Nat.{ℕ, zero, suc, ◌+◌, ◌*◌, ◌/◌, ◌%◌}
use native.Mathlib.Nat.{not-le_of_lt, zero-lt-suc, zero-mul, mul-one, mul-pos}
use native.Mathlib.Omega.{arith}
use mathlib.Core.Logic.{inl, inr, ◌↔◌}
use mathlib.Core.Bool.{Bool, true, false, not, ◌&&◌, cond, true≢false, false≢true}
use mathlib.Core.List.{[], ◌∷◌, map}
use lib.IntN.{ℤ}
use lib.Dec.{T, leb, eqb, lt→ltb}
use mir.Val.{bool_byte}
use lib.Ieee.{Float, nan, inf, fin, Format, binary64, up, down, fits, is_nan, odd, size, neg, add, sub, mul, lt, eq, le, ne, of_int, prec, low, hid, ones, top, of_fields, of_bits, to_bits}
use lib.Ieee.Bits.{of_bits-to_bits}
use lib.Ieee.Compare.{differs_from_itself, nan_differs}
use lib.Ieee.Fits.{up_pos, down_pos}
use lib.Ieee.Exact.{HasValue}
use Rattle.float.specs.{Floats.zero⁺, Floats.zero⁻, Floats.1·0, Floats.-1·0, Floats.2·0, Floats.◌⊖◌, Floats.◌⊗◌, Floats.num, Value.sign, Value.SignedLe}
use Rattle.float.specs.Order.{larger, below_zero}
use Rattle.float.proofs.{Tests.fails, Tests.same_test, Tests.either_way, Signed.SignedEq}
use Rattle.float.proofs.Value.{first-zero, unique, zero_of, zero-fits}
use Rattle.float.proofs.{Order.le-over, Order.lt-over, Order.eq-over, Order.lt-value}

-- ---- a finite value beside zero: ±a / c beside 0 / c
module _ (s : Bool) (m : ℕ) (e : ℤ) where
  own : HasValue (fin s m e) s (m * up e) (down e)
  own = (refl, refl)

  zero-over : HasValue zero⁺ false 0 (down e)
  zero-over = unfold of_bits in (refl, zero-mul (down e))

  pub le-zero : T (le (fin s m e) zero⁺) ↔ SignedLe s (m * up e) false 0
  le-zero = le-over (fin s m e) zero⁺ s (m * up e) false 0 (down e) (down_pos e) own zero-over

  pub eq-zero : T (eq (fin s m e) zero⁺) ↔ SignedEq s (m * up e) false 0
  eq-zero = eq-over (fin s m e) zero⁺ s (m * up e) false 0 (down e) (down_pos e) own zero-over

  pub zero-lt : T (lt zero⁺ (fin s m e)) ↔ (SignedLe s (m * up e) false 0 → ⊥)
  zero-lt = lt-over zero⁺ (fin s m e) false 0 s (m * up e) (down e) (down_pos e) zero-over own

  lt-zero : T (lt (fin s m e) zero⁺) ↔ (SignedLe false 0 s (m * up e) → ⊥)
  lt-zero = lt-over (fin s m e) zero⁺ s (m * up e) false 0 (down e) (down_pos e) own zero-over

-- so a value that equals zero is a zero, and is written in one way
none : (s : Bool) (a : ℕ) → SignedEq s a false 0 → a ≡ 0
none true a h = omega arith
none false a h = omega arith

pub zero_is : (f : Format) (x : Float) → T (fits f x) → T (eq x zero⁺) → (s : Bool) × (x ≡ zero_of s)
zero_is f nan p h = absurd (unfold eq in h)
zero_is f (inf s) p h = absurd (unfold eq of_bits in h)
zero_is f (fin s m e) p h =
    let z : m * up e ≡ 0 = none s (m * up e) ((eq-zero s m e).0 h) in
    (s, unique f (fin s m e) (zero_of s) s 0 1 (zero-lt-suc 0) p (zero-fits f s) (refl, mul-one (m * up e) ∙ z ∙ sym (zero-mul (down e))) (refl, refl))

-- ---- `max`
pub max-nan : (x y : Float) → T (ne x x) → y ≡ larger x y
unfolding larger
max-nan x y h = ap (λ (z : Float). larger z y) (sym (differs_from_itself x h))

pub max-less : (x y : Float) → lt x y ≡ true → y ≡ larger x y
unfolding larger lt
max-less nan y h = absurd (false≢true h)
max-less (inf s) nan h = absurd (false≢true h)
max-less (inf true) (inf true) h = refl
max-less (inf true) (inf false) h = refl
max-less (inf false) (inf t) h = absurd (false≢true h)
max-less (inf true) (fin t n d) h = refl
max-less (inf false) (fin t n d) h = absurd (false≢true h)
max-less (fin s m e) nan h = absurd (false≢true h)
max-less (fin s m e) (inf true) h = absurd (false≢true h)
max-less (fin s m e) (inf false) h = refl
max-less (fin s m e) (fin t n d) h = sym (ap (λ (b : Bool). cond b (fin t n d) (cond (lt (fin t n d) (fin s m e)) (fin s m e) (fin (s && t) m e))) h)

-- of two zeros the sum is the one without a sign, if there is one
max-of-zeros : (s t : Bool) → add binary64 (zero_of s) (zero_of t) ≡ larger (zero_of s) (zero_of t)
unfolding add larger lt
max-of-zeros true true = refl
max-of-zeros true false = refl
max-of-zeros false true = refl
max-of-zeros false false = refl

pub max-zeros : (x y : Float) → T (fits binary64 x) → T (fits binary64 y) → T (eq x zero⁺) → T (eq y zero⁺) → add binary64 x y ≡ larger x y
max-zeros x y f g h k =
    let a = zero_is binary64 x f h in
    let b = zero_is binary64 y g k in ap₂ (add binary64) a.1 b.1 ∙ max-of-zeros a.0 b.0 ∙ sym (ap₂ larger a.1 b.1)

-- x is not below y. Where x is negative and y is not, both are zeros; else the sign of x is that of the larger
same_sign : (s t : Bool) (m : ℕ) (e : ℤ) (n : ℕ) (d : ℤ) → (T (lt (fin s m e) (fin t n d)) → ⊥) → (T (eq (fin s m e) zero⁺) → T (eq (fin t n d) zero⁺) → ⊥) → (s && t) ≡ s
same_sign true true m e n d h k = refl
same_sign false t m e n d h k = refl
same_sign true false m e n d h k =
    let a = m * up e * down d in
    let b = n * up d * down e in
    elim (either_way (a + b) 0) [
      | inl z ↦ let i : m * up e ≡ 0 = first-zero (m * up e) (down d) (down_pos d) (omega arith) in
          let j : n * up d ≡ 0 = first-zero (n * up d) (down e) (down_pos e) (omega arith) in
          absurd (k ((eq-zero true m e).1 (omega arith, omega arith)) ((eq-zero false n d).1 (omega arith, omega arith)))
      | inr z ↦ absurd (h ((lt-value (fin true m e) (fin false n d) true (m * up e) (down e) false (n * up d) (down d) (down_pos e) (down_pos d)
          (refl, refl) (refl, refl)).1 (λ w. not-le_of_lt z (omega arith))))
    ]

pub max-rest : (x y : Float) → ne x x ≡ false → lt x y ≡ false → (T (eq x zero⁺) → T (eq y zero⁺) → ⊥) → x ≡ larger x y
unfolding larger
max-rest nan y h l k = absurd (true≢false (sym nan_differs ∙ h))
max-rest (inf s) nan h l k = refl
max-rest (inf true) (inf true) h l k = refl
max-rest (inf true) (inf false) h l k = absurd (unfold lt in true≢false l)
max-rest (inf false) (inf t) h l k = refl
max-rest (inf true) (fin t n d) h l k = absurd (unfold lt in true≢false l)
max-rest (inf false) (fin t n d) h l k = refl
max-rest (fin s m e) nan h l k = refl
max-rest (fin s m e) (inf true) h l k = refl
max-rest (fin s m e) (inf false) h l k = absurd (unfold lt in true≢false l)
max-rest (fin s m e) (fin t n d) h l k =
    sym (ap (λ (b : Bool). cond b (fin t n d) (cond (lt (fin t n d) (fin s m e)) (fin s m e) (fin (s && t) m e))) l
    ∙ ap (λ (b : Bool). cond (lt (fin t n d) (fin s m e)) (fin s m e) (fin b m e)) (same_sign s t m e n d (fails l) k)
    ∙ same (lt (fin t n d) (fin s m e)) (fin s m e))
  where
    same : (b : Bool) (v : Float) → cond b v v ≡ v
    same true v = refl
    same false v = refl

-- ---- the highest bit of the pattern is the sign
sign-odd : (d : ℕ) (s : Bool) (q k l : ℕ) → sign (odd d s q k l) ≡ s
unfolding odd
sign-odd d s zero k l = refl
sign-odd d s (suc q) k l = refl

sign-fields : (f : Format) (s : Bool) (x t : ℕ) → T (not (is_nan (of_fields f s x t))) → sign (of_fields f s x t) ≡ s
unfolding of_fields is_nan
sign-fields f s zero t h = sign-odd (prec f) s t 0 (low f)
sign-fields f s (suc x) t h = go (eqb (suc x) (ones f)) (eqb t 0) h
  where
    go : (a b : Bool) → T (not (is_nan (cond a (cond b (inf s) nan) (odd (prec f) s (hid f + t) x (low f))))) → sign (cond a (cond b (inf s) nan) (odd (prec f) s (hid f + t) x (low f))) ≡ s
    go true true h = refl
    go true false h = absurd h
    go false b h = sign-odd (prec f) s (hid f + t) x (low f)

pub sign-bits : (f : Format) (x : Float) → T (fits f x) → T (not (is_nan x)) → leb (top f) (to_bits f x) ≡ sign x
unfolding of_bits
sign-bits f x p h =
    let b = to_bits f x in
    let e : of_bits f b ≡ x = of_bits-to_bits f x p in
    let number : T (not (is_nan (of_bits f b))) = subst (λ (z : Float). T (not (is_nan z))) (sym e) h in
    sym (sign-fields f (leb (top f) b) (b % top f / hid f) (b % hid f) number) ∙ ap sign e

-- ---- `axis_sign`
-- the comparison with zero tells what is below zero
pub below-zero : (x : Float) → lt x zero⁺ ≡ below_zero x
unfolding below_zero
below-zero nan = unfold lt in refl
below-zero (inf s) = unfold lt of_bits in refl
below-zero (fin false m e) = same_test _ false (λ h. (lt-zero false m e).0 h (omega arith)) (λ h. absurd h)
below-zero (fin true zero e) = same_test _ false (λ h. (lt-zero true 0 e).0 h (omega (arith, zero-mul (up e)))) (λ h. absurd h)
below-zero (fin true (suc m) e) =
    same_test _ _ (λ h. lt→ltb 0 (suc m) (zero-lt-suc m)) (λ h. (lt-zero true (suc m) e).1 (λ k. omega (arith, mul-pos (zero-lt-suc m) (up_pos e))))

-- a test cast to a number, 1 or 0
pub one-minus-twice : (b : Bool) → 1·0 ⊖ 2·0 ⊗ num (bool_byte b) ≡ cond b -1·0 1·0
unfolding sub mul of_int of_bits neg odd size
one-minus-twice true = refl
one-minus-twice false = refl

-- so one minus twice the number that a test is cast to is, for every float, -1 exactly below zero and else 1
pub axis-sign : (x : Float) → 1·0 ⊖ 2·0 ⊗ num (bool_byte (lt x zero⁺)) ≡ cond (below_zero x) -1·0 1·0
axis-sign x = one-minus-twice (lt x zero⁺) ∙ ap (λ (t : Bool). cond t -1·0 1·0) (below-zero x)

-- for both zeros, NaN and both infinities too
pub axis-sign-edges : map (λ (x : Float). 1·0 ⊖ 2·0 ⊗ num (bool_byte (lt x zero⁺))) (zero⁺ ∷ zero⁻ ∷ nan ∷ inf false ∷ inf true ∷ []) ≡ 1·0 ∷ 1·0 ∷ 1·0 ∷ 1·0 ∷ -1·0 ∷ []
unfolding sub mul of_int of_bits neg odd size lt
axis-sign-edges = refl
