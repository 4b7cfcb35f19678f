-- Line 1: a slice that is short makes the line hold, and where it does not hold each is as long as asked.
use Rattle.lists.proofs.Base.{ℕ, zero, suc, ◌<◌, ◌≤◌, ◌≡◌, refl, sym, Bool, true, false, List, [], ◌∷◌, arith, ltb, length, get_or, le-ltb, lt-ltb, ltb-false, ◌⊎◌, inl, inr}
use Rattle.lists.proofs.Truths.{or-neither, or-true, or-false}
use Rattle.outcome.specs.Refusals.{short}

pub short-at : (lent asked : List ℕ) (i : ℕ) → i < length lent → i < length asked → ltb (get_or lent i 0) (get_or asked i 0) ≡ true → true ≡ short lent asked
unfolding short
short-at [] asked i h g e = absurd (omega arith)
short-at (x ∷ lent) [] i h g e = absurd (omega arith)
short-at (x ∷ lent) (a ∷ asked) zero h g e = rw e
short-at (x ∷ lent) (a ∷ asked) (suc i) h g e = rw (sym (short-at lent asked i (omega arith) (omega arith) e)) (sym (or-true (ltb x a)))

pub long-at : (lent asked : List ℕ) → short lent asked ≡ false → (i : ℕ) → i < length lent → i < length asked → get_or asked i 0 ≤ get_or lent i 0
unfolding short
long-at [] asked e i h g = absurd (omega arith)
long-at (x ∷ lent) [] e i h g = absurd (omega arith)
long-at (x ∷ lent) (a ∷ asked) e zero h g = ltb-false x a (or-neither (ltb x a) (short lent asked) e).0
long-at (x ∷ lent) (a ∷ asked) e (suc i) h g = long-at lent asked (or-neither (ltb x a) (short lent asked) e).1 i (omega arith) (omega arith)

-- one after the other: a first that is long leaves it to the rest, and the last says it
pub short-rest : {x a : ℕ} (lent asked : List ℕ) {b : Bool} → a ≤ x → b ≡ short lent asked → b ≡ short (x ∷ lent) (a ∷ asked)
unfolding short
short-rest {x} {a} lent asked h e = rw (le-ltb x a h) e

pub short-last : (x a : ℕ) → ltb x a ≡ short (x ∷ []) (a ∷ [])
unfolding short
short-last x a = sym (or-false (ltb x a))

-- just the lengths asked are enough
pub enough : (asked : List ℕ) → short asked asked ≡ false
unfolding short
enough [] = refl
enough (a ∷ asked) = rw (le-ltb a a (omega arith)) (enough asked)

-- one turn of a walk over both: what is left of each begins with the next length
module _ {x a : ℕ} {xs ys lent asked : List ℕ} (e : xs ≡ x ∷ lent) (f : ys ≡ a ∷ asked) where
  pub short-here : x < a → true ≡ short xs ys
  unfolding short
  short-here h = rw (e, f, lt-ltb x a h)

  pub short-later : a ≤ x → short lent asked ≡ short xs ys
  unfolding short
  short-later h = rw (e, f, le-ltb x a h)

pub short-end : (xs ys : List ℕ) → (length xs ≡ 0) ⊎ (length ys ≡ 0) → false ≡ short xs ys
unfolding short
short-end [] ys h = refl
short-end (x ∷ xs) [] h = refl
short-end (x ∷ xs) (y ∷ ys) (inl e) = absurd (omega (arith, e))
short-end (x ∷ xs) (y ∷ ys) (inr e) = absurd (omega (arith, e))
