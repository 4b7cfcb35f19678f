-- `root` is the root of IEEE 754: of an x that is finite and above zero it is the f64 nearest to √x (`root-nearest`).
use Rattle.std.proofs.Common.{◌≡◌, ℕ, zero, suc, ◌+◌, ◌-◌, ◌*◌, ◌/◌, ◌%◌, ◌^◌, ◌<◌, ◌≤◌, Bool, true, false, not, T, leb, ◌⊎◌, sym, refl, ap, ◌∙◌, subst, inl, inr, le_trans, le_of_eq, lt_of_lt_of_le, le_of_suc-le-suc, lt_of_le_of_lt, le_of_lt, lt_irrefl, mul-le-mul_right, mul_assoc, mul-le-mul, add_comm, le_antisymm, lt_of_mul-lt-mul_right, mul-le-mul_left, mul-lt-mul_of_pos_right, mul-pos, lt_of_not-le, le_of_mul-le-mul_right, mul-div_cancel, mul_left_comm, two-mul, arith, lit<, leb→le, pow_pos, pow_mono, pow-add, shl_lt}
use native.Mathlib.Nat.{mul-mod_left, pow-succ', mul-mul-mul_comm}
use lib.Arith.{lt_of_le-ne}
use lib.Dec.{nleb→lt}
use lib.Ieee.{Float, nan, inf, fin, binary64, size, odd, fits}
use lib.Ieee.Digits.{size-lt, size-le, size_reaches, back}
use lib.Ieee.Positive.{positive, positive-finite}
use Rattle.float.specs.Value.{units}
use Rattle.square_root.specs.{Root.isqrt, Root.root_of, Root.root, Nearest.NearestRoot}
use Rattle.square_root.proofs.Isqrt.{IsRoot, square_le, isqrt-root}
use Rattle.float.proofs.Units.{Grid, size-gt, units-injective, units-grid, units_lt, units-pos, made-units, made-fits, made-positive}

-- ---- the neighbours of q * 2 ^ k among the numbers of 53 digits
-- a number of the grid is a multiple of 2 ^ k, or below 2 ^ 52 * 2 ^ k
multiple : (n k : ℕ) → Grid n → (n < 2 ^ 52 * 2 ^ k) ⊎ ((c : ℕ) × (n ≡ c * 2 ^ k))
multiple n k g = go (leb k g.zeros) (leb→le k g.zeros) (nleb→lt k g.zeros)
  where
    go : (b : Bool) → (T b → k ≤ g.zeros) → (T (not b) → g.zeros < k) → (n < 2 ^ 52 * 2 ^ k) ⊎ ((c : ℕ) × (n ≡ c * 2 ^ k))
    go true y z =
        let j = g.zeros in
        inr (
          g.digits * 2 ^ (j - k),
          g.made ∙ ap (λ (x : ℕ). g.digits * x) (ap (λ (x : ℕ). 2 ^ x) (sym (back j k (y tt))) ∙ pow-add 2 (j - k) k)
              ∙ sym (mul_assoc g.digits (2 ^ (j - k)) (2 ^ k)),
        )
    go false y z =
        let j = g.zeros in
        inl (subst (λ (x : ℕ). x < 2 ^ 52 * 2 ^ k) (sym g.made)
        (lt_of_lt_of_le (shl_lt 53 j g.few) (subst (λ (x : ℕ). 2 ^ (53 + j) ≤ x) (pow-add 2 52 k) (pow_mono (room j k (z tt))))))
      where
        room : (j k : ℕ) → j < k → 53 + j ≤ 52 + k
        room j k h = omega arith

-- the next one up is no nearer than 2 ^ k
next : (n q k : ℕ) → Grid n → 2 ^ 52 ≤ q → q * 2 ^ k < n → (q + 1) * 2 ^ k ≤ n
next n q k g l h = elim (multiple n k g) [
  | inl s ↦ absurd (clash (2 ^ 52 * 2 ^ k) (q * 2 ^ k) s (mul-le-mul_right (2 ^ k) l) h)
  | inr c ↦ subst (λ (x : ℕ). (q + 1) * 2 ^ k ≤ x) (sym c.1) (mul-le-mul_right (2 ^ k) (up q c.0 (lt_of_mul-lt-mul_right (2 ^ k) (subst (λ (x : ℕ). q * 2 ^ k < x) c.1 h))))
]
  where
    clash : (a b : ℕ) → n < a → a ≤ b → b < n → ⊥
    clash a b p q r = omega arith

    up : (a b : ℕ) → a < b → a + 1 ≤ b
    up a b h = omega arith

-- nor the next one down, unless q is 2 ^ 52
previous : (n q k : ℕ) → Grid n → 2 ^ 52 < q → n < q * 2 ^ k → n + 2 ^ k ≤ q * 2 ^ k
previous n q k g l h = elim (multiple n k g) [
  | inl s ↦ below (2 ^ 52 * 2 ^ k) (2 ^ k) (q * 2 ^ k) s (subst (λ (x : ℕ). x ≤ q * 2 ^ k) (plus (2 ^ 52) (2 ^ k)) (mul-le-mul_right (2 ^ k) l))
  | inr c ↦ subst (λ (x : ℕ). x + 2 ^ k ≤ q * 2 ^ k) (sym c.1) (subst (λ (x : ℕ). x ≤ q * 2 ^ k) (plus c.0 (2 ^ k))
      (mul-le-mul_right (2 ^ k) (lt_of_mul-lt-mul_right (2 ^ k) (subst (λ (x : ℕ). x < q * 2 ^ k) c.1 h))))
]
  where
    below : (a p b : ℕ) → n < a → a + p ≤ b → n + p ≤ b
    below a p b h g = omega arith

    plus : (a p : ℕ) → suc a * p ≡ a * p + p
    plus a p = omega arith

-- ---- the whole root of n with a digit too many, s, and that digit rounded: q
-- n is even, so an s that is odd is no exact root, and its last digit rounds up
pub square-parity : (s n : ℕ) → s % 2 ≡ 1 → n % 2 ≡ 0 → s * s ≡ n → ⊥
square-parity s n o e h =
    let t = s / 2 in
    let w : s ≡ 2 * t + 1 = omega arith in
    let z : (2 * t + 1) * (2 * t + 1) ≡ n = subst (λ (x : ℕ). x * x ≡ n) w h in omega arith

pub record Rounded (n q : ℕ) : Type 0 where
  pub under : (4 * (q * q) ≤ n) ⊎ ((2 ^ 52 < q) × ((2 * q - 1) * (2 * q - 1) < n))
  pub over : n < (2 * q + 1) * (2 * q + 1)
  pub large : 2 ^ 52 ≤ q
  pub few : q ≤ 2 ^ 53

pub rounded : (n s : ℕ) → IsRoot n s → 2 ^ 106 ≤ n → n < 2 ^ 108 → n % 2 ≡ 0 → Rounded n ((s + 1) / 2)
rounded n s r lo hi e =
    let a : 2 ^ 53 ≤ s = square_le (2 ^ 53) s n lo r.1 in
    let b : s ≤ 2 ^ 54 - 1 = square_le s (2 ^ 54 - 1) n r.0 hi in
    record { under = go (s % 2) refl a; over = lt_of_lt_of_le r.1 (mul-le-mul covers covers); large = omega arith; few = omega arith }
  where
    covers : s + 1 ≤ 2 * ((s + 1) / 2) + 1
    covers = omega arith

    go : (d : ℕ) → s % 2 ≡ d → 2 ^ 53 ≤ s → (4 * ((s + 1) / 2 * ((s + 1) / 2)) ≤ n) ⊎ ((2 ^ 52 < (s + 1) / 2) × ((2 * ((s + 1) / 2) - 1) * (2 * ((s + 1) / 2) - 1) < n))
    go zero h a =
        let w : 2 * ((s + 1) / 2) ≡ s = omega arith in
        let z : 2 * ((s + 1) / 2) * (2 * ((s + 1) / 2)) ≤ n = subst (λ (x : ℕ). x * x ≤ n) (sym w) r.0 in inl (omega arith)
    go (suc d) h a =
        let o : s % 2 ≡ 1 = omega arith in
        let w : 2 * ((s + 1) / 2) - 1 ≡ s = omega arith in
        inr (omega arith, subst (λ (x : ℕ). x * x < n) (sym w) (lt_of_le-ne r.0 (square-parity s n o e)))

-- ---- with p = 2 ^ k, R = q * p is nearer to the root of n * p * p / 4 than any Y that is p away or more
square-lt : (a b : ℕ) → a < b → a * a < b * b
square-lt a b h = lt_of_le_of_lt (mul-le-mul_left a (le_of_lt h)) (mul-lt-mul_of_pos_right h (omega arith))

module _ (n q k : ℕ) (r : Rounded n q) (Y : ℕ) (g : Grid Y) where
  pub smaller : Y < q * 2 ^ k → (Y + q * 2 ^ k) * (Y + q * 2 ^ k) < n * (2 ^ k * 2 ^ k)
  smaller h = elim r.under [
    | inl u ↦ lt_of_lt_of_le (square-lt (Y + q * 2 ^ k) (q * 2 ^ k + q * 2 ^ k) (omega arith))
        (le_trans (le_of_eq (twice q (2 ^ k))) (mul-le-mul_right (2 ^ k * 2 ^ k) u))
    | inr u ↦ let l : Y + q * 2 ^ k ≤ (2 * q - 1) * 2 ^ k = most Y q (2 ^ k) u.0 (previous Y q k g u.0 h) in
        lt_of_le_of_lt (le_trans (mul-le-mul l l) (le_of_eq (mul-mul-mul_comm (2 * q - 1) (2 ^ k) (2 * q - 1) (2 ^ k)))) (mul-lt-mul_of_pos_right u.1 (mul-pos (pow_pos k) (pow_pos k)))
  ]
    where
      twice : (q p : ℕ) → (q * p + q * p) * (q * p + q * p) ≡ 4 * (q * q) * (p * p)
      twice q p = omega arith

      most : (Y q p : ℕ) → 2 ^ 52 < q → Y + p ≤ q * p → Y + q * p ≤ (2 * q - 1) * p
      most Y zero p l h = absurd (omega arith)
      most Y (suc q) p l h = let w : 2 * suc q - 1 ≡ 2 * q + 1 = omega arith in subst (λ (x : ℕ). Y + suc q * p ≤ x * p) (sym w) (omega arith)

  pub larger : q * 2 ^ k < Y → n * (2 ^ k * 2 ^ k) < (Y + q * 2 ^ k) * (Y + q * 2 ^ k)
  larger h =
      let l : (2 * q + 1) * 2 ^ k ≤ Y + q * 2 ^ k = least Y q (2 ^ k) (next Y q k g r.large h) in
      lt_of_lt_of_le (mul-lt-mul_of_pos_right r.over (mul-pos (pow_pos k) (pow_pos k))) (le_trans (le_of_eq (sym (mul-mul-mul_comm (2 * q + 1) (2 ^ k) (2 * q + 1) (2 ^ k)))) (mul-le-mul l l))
    where
      least : (Y q p : ℕ) → (q + 1) * p ≤ Y → (2 * q + 1) * p ≤ Y + q * p
      least Y q p h = omega arith

-- ---- the units of x, scaled to 107 or 108 digits
abbrev pub halved : ℕ → ℕ
halved X = 484 + (size X + 1) / 2

abbrev pub scaled : ℕ → ℕ
scaled X = X * 2 ^ 1076 / 2 ^ (2 * halved X)

pub record Scaled (X : ℕ) : Type 0 where
  pub whole : scaled X * 2 ^ (2 * halved X) ≡ X * 2 ^ 1076
  pub even : scaled X % 2 ≡ 0
  pub at_least : 2 ^ 106 ≤ scaled X
  pub below : scaled X < 2 ^ 108

-- the exponents that the proof of `scaling` compares, for an X of z digits with j zeros at least
room : (z j : ℕ) → z ≤ 53 + j → suc (2 * (484 + (z + 1) / 2)) ≤ j + 1076
room z j h = omega arith

least-exponent : (z : ℕ) → 0 < z → 106 + 2 * (484 + (z + 1) / 2) ≤ z - 1 + 1076
least-exponent z h = omega arith

most-exponent : (z : ℕ) → z + 1076 ≤ 108 + 2 * (484 + (z + 1) / 2)
most-exponent z = omega arith

pred_lt : (z : ℕ) → 0 < z → z - 1 < z
pred_lt z h = omega arith

pub scaling : (X : ℕ) → Grid X → 0 < X → Scaled X
scaling X g P =
    let m = g.digits in
    let j = g.zeros in
    let z = size X in
    let d = 2 * halved X in
    let t = j + 1076 - suc d in
    let le : suc d ≤ j + 1076 = room z j (size-le X (53 + j) (subst (λ (x : ℕ). x < 2 ^ (53 + j)) (sym g.made) (shl_lt 53 j g.few))) in
    let Z : 0 < z = size-gt X 0 P in
    let split : X * 2 ^ 1076 ≡ m * 2 ^ t * 2 * 2 ^ d = ap (λ (x : ℕ). x * 2 ^ 1076) g.made ∙ mul_assoc m (2 ^ j) (2 ^ 1076)
    ∙ ap (λ (x : ℕ). m * x) (sym (pow-add 2 j 1076) ∙ ap (λ (x : ℕ). 2 ^ x) (sym (back (j + 1076) (suc d) le)) ∙ pow-add 2 t (suc d) ∙ ap (λ (x : ℕ). 2 ^ t * x) (pow-succ' 2 d))
    ∙ sym (mul_assoc m (2 ^ t) (2 * 2 ^ d)) ∙ sym (mul_assoc (m * 2 ^ t) 2 (2 ^ d)) in
    let is : scaled X ≡ m * 2 ^ t * 2 = ap (λ (x : ℕ). x / 2 ^ d) split ∙ mul-div_cancel (m * 2 ^ t * 2) (pow_pos d) in
    let whole : scaled X * 2 ^ d ≡ X * 2 ^ 1076 = ap (λ (x : ℕ). x * 2 ^ d) is ∙ sym split in
    record {
      whole = whole;
      even = ap (λ (x : ℕ). x % 2) is ∙ mul-mod_left (m * 2 ^ t) 2;
      at_least = le_of_mul-le-mul_right (le_trans (le_of_eq (sym (pow-add 2 106 d))) (le_trans (pow_mono (least-exponent z Z))
          (le_trans (le_of_eq (pow-add 2 (z - 1) 1076))
          (le_trans (mul-le-mul_right (2 ^ 1076) (size_reaches X (z - 1) (pred_lt z Z))) (le_of_eq (sym whole))))))
          (pow_pos d);
      below = lt_of_mul-lt-mul_right (2 ^ d) (lt_of_le_of_lt (le_of_eq whole) (lt_of_lt_of_le (shl_lt z 1076 (size-lt X))
          (le_trans (pow_mono (most-exponent z)) (le_of_eq (pow-add 2 108 d)))));
    }

-- ---- the theorem
-- the digits of the root of a value with the units X
abbrev pub root_digits : ℕ → ℕ
root_digits X = (isqrt 54 (scaled X) + 1) / 2

pub root-rounded : (X : ℕ) → Grid X → 0 < X → Rounded (scaled X) (root_digits X)
root-rounded X g P =
    let s = scaling X g P in rounded (scaled X) (isqrt 54 (scaled X)) (isqrt-root 54 (scaled X) s.below) s.at_least s.below s.even

-- n * 4 ^ k is 4 times X * 2 ^ 1074
four : (X : ℕ) → Scaled X → scaled X * (2 ^ halved X * 2 ^ halved X) ≡ 4 * (X * 2 ^ 1074)
four X s = ap (λ (x : ℕ). scaled X * x) (sym (pow-add 2 (halved X) (halved X)) ∙ ap (λ (x : ℕ). 2 ^ x) (sym (two-mul (halved X)))) ∙ s.whole
    ∙ sym (mul_left_comm 4 X (2 ^ 1074))

pub halved-le : (z : ℕ) → z ≤ 2098 → 484 + (z + 1) / 2 ≤ 2000
halved-le z h = omega arith

pub root_of-is : (X : ℕ) → root_of X ≡ odd 54 false (root_digits X) (halved X) 1074
unfolding root_of
root_of-is X = refl

-- q * 2 ^ k units, against every f64
pub nearest : (x : Float) → T (fits binary64 x) → T (positive x) → NearestRoot x (odd 54 false (root_digits (units x)) (halved (units x)) 1074)
nearest x h p =
    let X = units x in
    let q = root_digits X in
    let k = halved X in
    let g = units-grid x h (positive-finite x p) in
    let P = units-pos x p h in
    let r = root-rounded X g P in
    let R : units (odd 54 false q k 1074) ≡ q * 2 ^ k = made-units q k in
    let F : scaled X * (2 ^ k * 2 ^ k) ≡ 4 * (X * 2 ^ 1074) = four X (scaling X g P) in
    record {
      held = made-fits q k r.few (halved-le (size X) (size-le X 2098 (units_lt x h (positive-finite x p))));
      above_zero = made-positive q k (lt_of_lt_of_le (lit< tt) r.large);
      beats-smaller = λ y f t. subst (λ (c : ℕ). units y < c → (units y + c) * (units y + c) < 4 * (X * 2 ^ 1074)) (sym R)
          (subst (λ (z : ℕ). units y < q * 2 ^ k → (units y + q * 2 ^ k) * (units y + q * 2 ^ k) < z) F (smaller (scaled X) q k r (units y) (units-grid y f t)));
      beats-larger = λ y f t. subst (λ (c : ℕ). c < units y → 4 * (X * 2 ^ 1074) < (units y + c) * (units y + c)) (sym R)
          (subst (λ (z : ℕ). q * 2 ^ k < units y → z < (units y + q * 2 ^ k) * (units y + q * 2 ^ k)) F (larger (scaled X) q k r (units y) (units-grid y f t)));
    }

pub root-nearest : (x : Float) → T (fits binary64 x) → T (positive x) → NearestRoot x (root x)
unfolding root
root-nearest nan h p = absurd p
root-nearest (inf s) h p = absurd p
root-nearest (fin true m e) h p = absurd p
root-nearest (fin false zero e) h p = absurd p
root-nearest (fin false (suc m) e) h p =
    let x = fin false (suc m) e in subst (λ (r : Float). NearestRoot x r) (sym (root_of-is (units x))) (nearest x h p)

-- ---- there is one nearest only: `NearestRoot` leaves nothing open
pub nearest-unique : (x r r' : Float) → NearestRoot x r → NearestRoot x r' → r ≡ r'
nearest-unique x r r' a b = units-injective r r' a.held b.held a.above_zero b.above_zero (le_antisymm (le (units r) (units r') (above a b)) (le (units r') (units r) (above b a)))
  where
    le : (m n : ℕ) → (n < m → ⊥) → m ≤ n
    le m n h = le_of_suc-le-suc (lt_of_not-le (λ (g : n < m). h g))

    -- no nearest root is above another: their midpoint would be on both sides of the exact root
    above : {s t : Float} → NearestRoot x s → NearestRoot x t → units t < units s → ⊥
    above {s} {t} c d h = lt_irrefl (4 * (units x * 2 ^ 1074)) (lt_of_lt_of_le (d.beats-larger s c.held (positive-finite s c.above_zero) h)
        (le_trans (le_of_eq (ap (λ (z : ℕ). z * z) (add_comm (units s) (units t)))) (le_of_lt (c.beats-smaller t d.held (positive-finite t d.above_zero) h))))
