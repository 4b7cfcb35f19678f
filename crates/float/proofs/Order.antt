-- The order of floats. `le`, `lt` and `eq` compare the values (`le-value`, `lt-value`, `eq-value`), whatever the format and however the values are written.
-- `le` is reflexive and total but for a NaN, and transitive with no exception: a NaN is on neither side of it.
use mathlib.Core.Path.{refl, sym, ◌∙◌}
use mathlib.Core.Logic.{◌⊎◌, inl, inr, ◌↔◌}
use mathlib.Core.Bool.{Bool, true, false, not}
use Prim.Native.Nat.{ℕ, ◌+◌, ◌*◌, ◌^◌, ◌≤◌, ◌<◌}
use native.Mathlib.Nat.{mul_assoc, mul_right_comm, mul-pos}
use native.Mathlib.Omega.{arith}
use lib.Dec.{T}
use lib.Pow.{pow_pos}
use lib.Ieee.{Float, nan, inf, fin, up, down, neg, lt, eq, le, is_nan}
use lib.Ieee.Fits.{down_pos}
use lib.Ieee.Exact.{HasValue}
use lib.Ieee.Scale.{finite}
use Rattle.float.specs.Value.{SignedLe, sign}
use Rattle.float.proofs.Signed.{SignedEq, signed-refl, signed-trans, signed-way, signed-total, signed-neg, signed-over, below-iff, level-iff, either-iff}
use Rattle.float.proofs.Value.{depth, units_at, value-at, value_same, crossed-left, crossed-right}

-- ---- the comparisons of floats are those of their values
-- the order of the fractions that the toolchain compares is that of the values ±a / c and ±b / c
compared : (s' : Bool) (m : ℕ) (e : lib.IntN.ℤ) (t' : Bool) (n : ℕ) (d : lib.IntN.ℤ) (s : Bool) (a : ℕ) (t : Bool) (b c : ℕ) → 0 < c →
    HasValue (fin s' m e) s a c → HasValue (fin t' n d) t b c
    → (SignedLe s' (m * up e * down d) t' (n * up d * down e) ↔ SignedLe s a t b) × (SignedLe t' (n * up d * down e) s' (m * up e * down d) ↔ SignedLe t b s a)
compared s' m e t' n d s a t b c C v w =
    let D = down e * down d in
    let pos-D : 0 < D = mul-pos (down_pos e) (down_pos d) in
    let i = crossed-left (m * up e) c a (down e) (down d) v.1 in
    let j = crossed-right (n * up d) c b (down e) (down d) w.1 in
    (signed-over s' s (m * up e * down d) a t' t (n * up d * down e) b c D C pos-D v.0 w.0 i j, signed-over t' t (n * up d * down e) b s' s (m * up e * down d) a c D C pos-D w.0 v.0 j i)

-- over one denominator
module _ (x y : Float) (s : Bool) (a : ℕ) (t : Bool) (b c : ℕ) (C : 0 < c) (v : HasValue x s a c) (w : HasValue y t b c) where
  pub le-over : T (le x y) ↔ SignedLe s a t b
  le-over = go x y v w
    where
      go : (x y : Float) → HasValue x s a c → HasValue y t b c → T (le x y) ↔ SignedLe s a t b
      go nan _ v w = elim v [ ]
      go (inf _) _ v w = elim v [ ]
      go (fin s' m e) nan v w = elim w [ ]
      go (fin s' m e) (inf _) v w = elim w [ ]
      go (fin s' m e) (fin t' n d) v w =
          let o = compared s' m e t' n d s a t b c C v w in
          let i = either-iff s' (m * up e * down d) t' (n * up d * down e) in
          (λ h. o.0.0 (i.0 (unfold le in h)), λ h. unfold le in i.1 (o.0.1 h))

  pub lt-over : T (lt x y) ↔ (SignedLe t b s a → ⊥)
  lt-over = go x y v w
    where
      go : (x y : Float) → HasValue x s a c → HasValue y t b c → T (lt x y) ↔ (SignedLe t b s a → ⊥)
      go nan _ v w = elim v [ ]
      go (inf _) _ v w = elim v [ ]
      go (fin s' m e) nan v w = elim w [ ]
      go (fin s' m e) (inf _) v w = elim w [ ]
      go (fin s' m e) (fin t' n d) v w =
          let o = compared s' m e t' n d s a t b c C v w in
          let i = below-iff s' (m * up e * down d) t' (n * up d * down e) in
          (λ h k. i.0 (unfold lt in h) (o.1.1 k), λ h. unfold lt in i.1 (λ k. h (o.1.0 k)))

  pub eq-over : T (eq x y) ↔ SignedEq s a t b
  eq-over = go x y v w
    where
      go : (x y : Float) → HasValue x s a c → HasValue y t b c → T (eq x y) ↔ SignedEq s a t b
      go nan _ v w = elim v [ ]
      go (inf _) _ v w = elim v [ ]
      go (fin s' m e) nan v w = elim w [ ]
      go (fin s' m e) (inf _) v w = elim w [ ]
      go (fin s' m e) (fin t' n d) v w =
          let o = compared s' m e t' n d s a t b c C v w in
          let i = level-iff s' (m * up e * down d) t' (n * up d * down e) in
          (λ h. let k = i.0 (unfold eq in h) in (o.0.0 k.0, o.1.0 k.1), λ h. unfold eq in i.1 (o.0.1 h.0, o.1.1 h.1))

-- over two
module _ (x y : Float) (s : Bool) (a c : ℕ) (t : Bool) (b d : ℕ) (C : 0 < c) (D : 0 < d) (v : HasValue x s a c) (w : HasValue y t b d) where
  left : HasValue x s (a * d) (c * d)
  left = value_same x s a c (a * d) (c * d) C (sym (mul_right_comm a d c ∙ mul_assoc a c d)) v

  right : HasValue y t (b * c) (c * d)
  right = value_same y t b d (b * c) (c * d) D (sym (mul_assoc b c d)) w

  pub le-value : T (le x y) ↔ SignedLe s (a * d) t (b * c)
  le-value = le-over x y s (a * d) t (b * c) (c * d) (mul-pos C D) left right

  pub lt-value : T (lt x y) ↔ (SignedLe t (b * c) s (a * d) → ⊥)
  lt-value = lt-over x y s (a * d) t (b * c) (c * d) (mul-pos C D) left right

  pub eq-value : T (eq x y) ↔ SignedEq s (a * d) t (b * c)
  eq-value = eq-over x y s (a * d) t (b * c) (c * d) (mul-pos C D) left right

-- in units of 2 ^ -l, for an l that is large enough
module _ (l : ℕ) (x y : Float) (p : T (finite x)) (q : T (finite y)) (h : depth x ≤ l) (k : depth y ≤ l) where
  pub le-at : T (le x y) ↔ SignedLe (sign x) (units_at l x) (sign y) (units_at l y)
  le-at = le-over x y (sign x) (units_at l x) (sign y) (units_at l y) (2 ^ l) (pow_pos l) (value-at l x p h) (value-at l y q k)

  pub eq-at : T (eq x y) ↔ SignedEq (sign x) (units_at l x) (sign y) (units_at l y)
  eq-at = eq-over x y (sign x) (units_at l x) (sign y) (units_at l y) (2 ^ l) (pow_pos l) (value-at l x p h) (value-at l y q k)

-- ---- NaN and the infinities
-- nothing is below a NaN
pub not-le-nan : (x : Float) → T (le x nan) → ⊥
unfolding le
not-le-nan nan h = h
not-le-nan (inf s) h = h
not-le-nan (fin s m e) h = h

-- -∞ is below all but a NaN, and +∞ above all but a NaN
pub bottom : (y : Float) → T (not (is_nan y)) → T (le (inf true) y)
unfolding le is_nan
bottom nan p = absurd p
bottom (inf true) p = tt
bottom (inf false) p = tt
bottom (fin t n d) p = tt

pub top : (x : Float) → T (not (is_nan x)) → T (le x (inf false))
unfolding le is_nan
top nan p = absurd p
top (inf true) p = tt
top (inf false) p = tt
top (fin s m e) p = tt

pub right-number : (x y : Float) → T (le x y) → T (not (is_nan y))
unfolding is_nan
right-number x nan h = not-le-nan x h
right-number x (inf t) h = tt
right-number x (fin t n d) h = tt

-- ---- reflexive, total, transitive, antisymmetric
pub le_refl : (x : Float) → T (not (is_nan x)) → T (le x x)
le_refl nan p = absurd (unfold is_nan in p)
le_refl (inf true) p = bottom (inf true) p
le_refl (inf false) p = top (inf false) p
le_refl (fin s m e) p = let x = fin s m e in (le-at (depth x) x x tt tt (omega arith) (omega arith)).1 (signed-refl s (units_at (depth x) x))

pub le_total : (x y : Float) → T (not (is_nan x)) → T (not (is_nan y)) → T (le x y) ⊎ T (le y x)
le_total nan y p q = absurd (unfold is_nan in p)
le_total (inf true) y p q = inl (bottom y q)
le_total (inf false) y p q = inr (top y q)
le_total (fin s m e) nan p q = absurd (unfold is_nan in q)
le_total (fin s m e) (inf true) p q = inr (bottom (fin s m e) p)
le_total (fin s m e) (inf false) p q = inl (top (fin s m e) p)
le_total (fin s m e) (fin t n d) p q =
    let x = fin s m e in
    let y = fin t n d in
    let l = depth x + depth y in
    elim (signed-way s (units_at l x) t (units_at l y)) [
      | inl h ↦ inl ((le-at l x y tt tt (omega arith) (omega arith)).1 h)
      | inr h ↦ inr ((le-at l y x tt tt (omega arith) (omega arith)).1 (signed-total t (units_at l y) s (units_at l x) h))
    ]

pub le_trans : (x y z : Float) → T (le x y) → T (le y z) → T (le x z)
unfolding le
le_trans nan y z h k = absurd h
le_trans (inf true) y z h k = bottom z (right-number y z k)
le_trans (inf false) nan z h k = absurd h
le_trans (inf false) (inf true) z h k = absurd h
le_trans (inf false) (inf false) z h k = k
le_trans (inf false) (fin t n d) z h k = absurd h
le_trans (fin s m e) nan z h k = absurd h
le_trans (fin s m e) (inf true) z h k = absurd h
le_trans (fin s m e) (inf false) nan h k = k
le_trans (fin s m e) (inf false) (inf true) h k = absurd k
le_trans (fin s m e) (inf false) (inf false) h k = tt
le_trans (fin s m e) (inf false) (fin u o g) h k = absurd k
le_trans (fin s m e) (fin t n d) nan h k = k
le_trans (fin s m e) (fin t n d) (inf u) h k = k
le_trans (fin s m e) (fin t n d) (fin u o g) h k =
    let x = fin s m e in
    let y = fin t n d in
    let z = fin u o g in
    let l = depth x + depth y + depth z in
    (le-at l x z tt tt (omega arith) (omega arith)).1
    (signed-trans s (units_at l x) t (units_at l y) u (units_at l z) ((le-at l x y tt tt (omega arith) (omega arith)).0 h) ((le-at l y z tt tt (omega arith) (omega arith)).0 k))

pub le_antisymm : (x y : Float) → T (le x y) → T (le y x) → T (eq x y)
unfolding le
le_antisymm nan y h k = absurd h
le_antisymm (inf s) nan h k = absurd h
le_antisymm (inf true) (inf true) h k = tt
le_antisymm (inf true) (inf false) h k = absurd k
le_antisymm (inf false) (inf true) h k = absurd h
le_antisymm (inf false) (inf false) h k = tt
le_antisymm (inf true) (fin t n d) h k = absurd k
le_antisymm (inf false) (fin t n d) h k = absurd h
le_antisymm (fin s m e) nan h k = absurd h
le_antisymm (fin s m e) (inf true) h k = absurd h
le_antisymm (fin s m e) (inf false) h k = absurd k
le_antisymm (fin s m e) (fin t n d) h k =
    let x = fin s m e in
    let y = fin t n d in
    let l = depth x + depth y in
    (eq-at l x y tt tt (omega arith) (omega arith)).1 ((le-at l x y tt tt (omega arith) (omega arith)).0 h, (le-at l y x tt tt (omega arith) (omega arith)).0 k)

-- ---- `lt` beside `le`

-- `neg` turns the order round
pub neg-le : (x y : Float) → T (le x y) → T (le (neg y) (neg x))
unfolding le neg
neg-le nan y h = absurd h
neg-le (inf s) nan h = absurd h
neg-le (inf true) (inf true) h = tt
neg-le (inf true) (inf false) h = tt
neg-le (inf false) (inf true) h = absurd h
neg-le (inf false) (inf false) h = tt
neg-le (inf true) (fin t n d) h = tt
neg-le (inf false) (fin t n d) h = absurd h
neg-le (fin s m e) nan h = absurd h
neg-le (fin s m e) (inf t) h = h
neg-le (fin s m e) (fin t n d) h =
    let x = fin s m e in
    let y = fin t n d in
    (le-value (fin (not t) n d) (fin (not s) m e) (not t) (n * up d) (down d) (not s) (m * up e) (down e) (down_pos d) (down_pos e) (refl, refl) (refl, refl)).1
    (signed-neg s (m * up e * down d) t (n * up d * down e) ((le-value x y s (m * up e) (down e) t (n * up d) (down d) (down_pos e) (down_pos d) (refl, refl) (refl, refl)).0 h))
