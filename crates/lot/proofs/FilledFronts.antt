-- The front of a slice filled one entry after the other.
use Rattle.lists.proofs.Base.{◌≡◌, refl, sym, ap, ◌∙◌, subst, Bool, true, false, List, [], ◌∷◌, ◌++◌, ℕ, ◌+◌, ◌<◌, ◌≤◌, arith, length, take, set, length-append, length-take-le}
use Rattle.lists.specs.{Ranges.range, Filters.filter, Writes.over}
use Rattle.lists.proofs.{Filters.kept-last-yes, Filters.kept-last-no, Writes.over_none, Writes.over-next, Writes.length_over, Writes.take-over}
use Rattle.lot.specs.inner.Filled.{Filled}
use Rattle.lists.proofs.Parts.{over-over, over-take}

-- a list's own front
pub filled-take : (l : List ℕ) (k : ℕ) → k ≤ length l → Filled (take k l) l l k
filled-take l k h = record { held = sym (over-take l k h); many = sym (length-take-le k l h) }

module _ (old : List ℕ) where
  pub filled_none : Filled [] old old 0
  filled_none = record { held = sym (over_none old); many = refl }

  pub filled_more : {l new : List ℕ} {k x y : ℕ} → Filled l old new k → x ≡ y → k < length old → Filled (l ++ (y ∷ [])) old (set new k x) (k + 1)
  filled_more {l} {new} {k} {x} {y} f e h = record {
    held = over-next l old f.held (sym f.many) e h;
    many = omega (arith, length-append l (y ∷ []), f.many);
  }

  pub filled-as : {l l' new : List ℕ} {k : ℕ} → l ≡ l' → Filled l old new k → Filled l' old new k
  filled-as {l} {l'} {new} {k} e f = subst (λ (t : List ℕ). Filled t old new k) e f

  -- another list over the same front, no shorter
  pub filled-over : {l l' new new' : List ℕ} {k k' : ℕ} → Filled l old new k → Filled l' new new' k' → length l ≤ length l' → Filled l' old new' k'
  filled-over {l} {l'} f f' h = record { held = f'.held ∙ ap (over l') f.held ∙ over-over l' l old h; many = f'.many }

  module _ {l new : List ℕ} {k : ℕ} (f : Filled l old new k) where
    pub filled-long : k ≤ length old → length new ≡ length old
    filled-long h = ap length f.held ∙ length_over l old (omega (arith, f.many))

    pub filled-front : take k new ≡ l
    filled-front = ap (take k) f.held ∙ take-over l old k (sym f.many)

    pub filled-part : k ≡ length (take k new)
    filled-part = f.many ∙ sym (ap length filled-front)

-- ---- a loop that keeps those of a range that pass a test

module _ (p : ℕ → Bool) (old : List ℕ) {out out' : List ℕ} {k k' : ℕ} (i : ℕ) (f : Filled (filter p (range 0 i)) old out k) where
  pub keeping-yes : p i ≡ true → k < length old → out' ≡ set out k i → k' ≡ k + 1 → Filled (filter p (range 0 (i + 1))) old out' k'
  keeping-yes e h at one = rw (at, one) (filled-as old (sym (kept-last-yes p 0 i (omega arith) e)) (filled_more old f refl h))

  pub keeping-no : p i ≡ false → out' ≡ out → k' ≡ k → Filled (filter p (range 0 (i + 1))) old out' k'
  keeping-no e at one = rw (at, one) (filled-as old (sym (kept-last-no p 0 i (omega arith) e)) f)
