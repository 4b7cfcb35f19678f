-- Searches through a list: whether one passes, all do, and the first that does.
use Rattle.lists.proofs.Base.{◌≡◌, refl, sym, ap, ◌∙◌, ap₂, Bool, true, false, ◌&&◌, ◌||◌, cond, ◌⊎◌, inl, inr, ⊎_elim, List, []}
use Rattle.lists.proofs.Base.{◌∷◌, ◌++◌, ℕ, zero, suc, ◌+◌, ◌<◌, ◌≤◌, add-one, arith, ltb-true, ltb-false, ltb, length, get_or}
use Rattle.lists.specs.{Filters.any, Filters.first_at, Filters.all, Ranges.up_from, Ranges.range}
use Rattle.lists.proofs.Ranges.{range_none, range_last, range-up_from}
use Rattle.lists.proofs.Truths.{or-neither, or-false, order, same_or_not}

module _ {A : Type 0} where
  -- a search that ends before the end has found one
  pub any_found : (p : A → Bool) (l : List A) → first_at p l < length l → any p l ≡ true
  unfolding first_at any
  any_found p [] h = absurd (omega arith)
  any_found p (x ∷ l) h = one (p x) h (λ b. any_found p l b)
    where
      one : (b : Bool) → cond b 0 (suc (first_at p l)) < suc (length l) → (first_at p l < length l → any p l ≡ true) → (b || any p l) ≡ true
      one true h f = refl
      one false h f = f (omega arith)

  pub any-missing : (p : A → Bool) (l : List A) → length l ≤ first_at p l → any p l ≡ false
  unfolding first_at any
  any-missing p [] h = refl
  any-missing p (x ∷ l) h = one (p x) h (λ b. any-missing p l b)
    where
      one : (b : Bool) → suc (length l) ≤ cond b 0 (suc (first_at p l)) → (length l ≤ first_at p l → any p l ≡ false) → (b || any p l) ≡ false
      one true h f = absurd (omega arith)
      one false h f = f (omega arith)

  pub any-first : (p : A → Bool) (l : List A) → any p l ≡ ltb (first_at p l) (length l)
  any-first p l = one (ltb (first_at p l) (length l)) refl
    where
      one : (b : Bool) → ltb (first_at p l) (length l) ≡ b → any p l ≡ b
      one true e = any_found p l (ltb-true (first_at p l) (length l) e)
      one false e = any-missing p l (ltb-false (first_at p l) (length l) e)

  -- what a search finds passes
  pub found-passes : (p : A → Bool) (l : List A) (d : A) → first_at p l < length l → p (get_or l (first_at p l) d) ≡ true
  unfolding first_at
  found-passes p [] d h = absurd (omega arith)
  found-passes p (x ∷ l) d h = one (p x) refl h (λ b. found-passes p l d b)
    where
      one : (b : Bool) → p x ≡ b → cond b 0 (suc (first_at p l)) < suc (length l) → (first_at p l < length l → p (get_or l (first_at p l) d) ≡ true)
          → p (get_or (x ∷ l) (cond b 0 (suc (first_at p l))) d) ≡ true
      one true e h f = e
      one false e h f = f (omega arith)

  -- a search ends at the end
  pub first-within : (p : A → Bool) (l : List A) → first_at p l ≤ length l
  unfolding first_at
  first-within p [] = omega arith
  first-within p (x ∷ l) = one (p x) (first-within p l)
    where
      one : (b : Bool) → first_at p l ≤ length l → cond b 0 (suc (first_at p l)) ≤ suc (length l)
      one true h = omega arith
      one false h = omega arith

-- ---- one list behind another

pub any_append : {A : Type 0} (p : A → Bool) (xs ys : List A) → any p (xs ++ ys) ≡ (any p xs || any p ys)
unfolding any
any_append p [] ys = refl
any_append p (x ∷ xs) ys = one (p x) (any_append p xs ys)
  where
    one : (b : Bool) → any p (xs ++ ys) ≡ (any p xs || any p ys) → (b || any p (xs ++ ys)) ≡ ((b || any p xs) || any p ys)
    one true e = refl
    one false e = e

pub all-last : {A : Type 0} (p : A → Bool) (xs : List A) (x : A) → all p (xs ++ (x ∷ [])) ≡ (all p xs && p x)
unfolding all
all-last p [] x = one (p x)
  where
    one : (b : Bool) → (b && true) ≡ (true && b)
    one true = refl
    one false = refl
all-last p (y ∷ xs) x = two (p y) (all-last p xs x)
  where
    two : (b : Bool) → all p (xs ++ (x ∷ [])) ≡ (all p xs && p x) → (b && all p (xs ++ (x ∷ []))) ≡ ((b && all p xs) && p x)
    two true e = e
    two false e = refl

-- ---- through a range

pub any-more : (p : ℕ → Bool) (i : ℕ) {b : Bool} → p i ≡ b → any p (range 0 (i + 1)) ≡ (any p (range 0 i) || b)
unfolding any
any-more p i {b} e = ap (any p) (range_last 0 i (omega arith)) ∙ any_append p (range 0 i) (i ∷ []) ∙ ap (λ (t : Bool). any p (range 0 i) || t) (or-false (p i) ∙ e)

pub any_same : (p q : ℕ → Bool) (n : ℕ) → ((i : ℕ) → i < n → p i ≡ q i) → any p (range 0 n) ≡ any q (range 0 n)
unfolding any
any_same p q zero e = ap (any p) (range_none 0 0 (omega arith)) ∙ ap (any q) (sym (range_none 0 0 (omega arith)))
any_same p q (suc n) e =
    let one : n + 1 ≡ suc n = add-one n in
    ap (λ (k : ℕ). any p (range 0 k)) (sym one) ∙ any-more p n refl
    ∙ ap₂ (λ (a b : Bool). a || b) (any_same p q n (λ i h. e i (omega arith))) (e n (omega arith)) ∙ sym (any-more q n refl)
    ∙ ap (λ (k : ℕ). any q (range 0 k)) one

pub any-from : (p : ℕ → Bool) (k lo : ℕ) → any p (up_from lo k) ≡ false → (i : ℕ) → lo ≤ i → i < lo + k → p i ≡ false
unfolding up_from any
any-from p zero lo e i g h = absurd (omega arith)
any-from p (suc k) lo e i g h = one (same_or_not lo i) (or-neither (p lo) (any p (up_from (suc lo) k)) e) (λ d q. any-from p k (suc lo) q i (later d) (omega arith))
  where
    later : (lo ≡ i → ⊥) → suc lo ≤ i
    later d = ⊎_elim (λ (q : suc lo ≤ i). q) (λ (q : i < suc lo). absurd (d (omega arith))) (order (suc lo) i)

    one : (lo ≡ i) ⊎ (lo ≡ i → ⊥) → (p lo ≡ false) × (any p (up_from (suc lo) k) ≡ false) →
        ((lo ≡ i → ⊥) → any p (up_from (suc lo) k) ≡ false → p i ≡ false) → p i ≡ false
    one (inl q) b r = ap p (sym q) ∙ b.0
    one (inr d) b r = r d b.1

pub any-no : (p : ℕ → Bool) (n : ℕ) → any p (range 0 n) ≡ false → (i : ℕ) → i < n → p i ≡ false
any-no p n e i h = any-from p n 0 (ap (any p) (sym (range-up_from n)) ∙ e) i (omega arith) (omega arith)
