-- Outputs whose front is cleared, what is told, and the number of axes.
use Rattle.lists.proofs.Base.{◌≡◌, refl, ap, ap₂, ◌∙◌, Bool, true, false, cond, List, ◌++◌, ℕ, ◌-◌, ◌≤◌, min-le_right}
use Rattle.lists.proofs.Base.{arith, length, take, drop, replicate, length-replicate, length-take-le, Float}
use Rattle.float.specs.Floats.{zero⁺}
use Rattle.lists.specs.Writes.{over, cleared}
use Rattle.lists.proofs.Parts.{over-lent}
use Rattle.outcome.specs.Outcome.{answered, refused}
use Rattle.dapc_discriminant.specs.{Dapc.axes_of}
use Rattle.dapc_discriminant.specs.inner.Outputs.{refusal}

-- the front of a slice is lent and cleared
cleared-front : {A : Type 0} (v : A) (k : ℕ) (l : List A) {r : List A} → k ≤ length l → r ≡ cleared v (take k l) → r ++ drop k l ≡ over (replicate k v) l
unfolding cleared
cleared-front {A} v k l h e =
    ap (λ (t : List A). t ++ drop k l) (e ∙ ap (λ (n : ℕ). replicate n v) (length-take-le k l h)) ∙ over-lent (replicate k v) l (length-replicate k v)

pub refused-by : (j k n : ℕ) (out : List Float) (assigned : List ℕ) {o : List Float} {a : List ℕ} → k ≤ length out → n ≤ length assigned
    → o ≡ cleared zero⁺ (take k out) → a ≡ cleared 0 (take n assigned)
    → refusal j (o ++ drop k out) (a ++ drop n assigned) ≡ refusal j (over (replicate k zero⁺) out) (over (replicate n 0) assigned)
refused-by j k n out assigned h g e f = ap₂ (refusal j) (cleared-front zero⁺ k out h e) (cleared-front 0 n assigned g f)

-- what is told by a test
module _ {A : Type 0} (j : ℕ) (a : A) where
  pub told-yes : (b : Bool) {k : ℕ} → refused k ≡ cond b (refused j) (answered a) → (b ≡ true) × (k ≡ j)
  told-yes true e = (refl, cc)
  told-yes false e = (cc, cc)

  pub told-no : (b : Bool) {x : A} → answered x ≡ cond b (refused j) (answered a) → (b ≡ false) × (x ≡ a)
  told-no true e = (cc, cc)
  told-no false e = (refl, cc)

-- there are at most p axes
pub axes-most : (axes g p : ℕ) → axes ≡ axes_of g p → axes ≤ p
unfolding axes_of
axes-most axes g p e = omega (arith, min-le_right (g - 1) p)
