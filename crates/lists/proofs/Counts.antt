-- How many members of a list pass a test.
use Rattle.lists.proofs.Base.{◌≡◌, refl, sym, ap, ◌∙◌, ap₂, Bool, true, false, ◌&&◌, ◌||◌, cond, true≢false, ⊎_elim, ℕ, zero, suc}
use Rattle.lists.proofs.Base.{◌+◌, ◌<◌, ◌≤◌, not-suc-le-zero, le_of_suc-le-suc, add-zero, arith, lt-ltb, ltb, length, get_or}
use mathlib.Core.List.Memᴰ.{cases_cons}
use mathlib.Core.List.Memᴰ.{head as here}
use mathlib.Core.List.Memᴰ.{not-nil}
use mathlib.Core.List.Memᴰ.{tail as there}
use mathlib.Core.List.{List, [], ◌∷◌, map, Memᴰ as Member}
use Rattle.lists.specs.{Filters.filter, Filters.any, Filters.count_if, Ranges.up_from, Ranges.range}
use Rattle.lists.proofs.Ranges.{range-up_from, table-range, table_of}

one-mono : (a b : Bool) → (a ≡ true → b ≡ true) → cond a 1 0 ≤ cond b 1 0
one-mono true true h = omega arith
one-mono true false h = absurd (true≢false (sym (h refl)))
one-mono false true h = omega arith
one-mono false false h = omega arith

module _ {A : Type 0} where
  -- a test that passes wherever another does passes no less often
  pub count-mono : (p q : A → Bool) (xs : List A) → ((x : A) → Member x xs → p x ≡ true → q x ≡ true) → count_if p xs ≤ count_if q xs
  unfolding count_if
  count-mono p q [] h = omega arith
  count-mono p q (x ∷ xs) h = omega (arith, one-mono (p x) (q x) (h x (here refl)), count-mono p q xs (λ y m. h y (there m)))

  pub count-cong : (p q : A → Bool) (xs : List A) → ((x : A) → Member x xs → p x ≡ q x) → count_if p xs ≡ count_if q xs
  unfolding count_if
  count-cong p q [] h = refl
  count-cong p q (x ∷ xs) h = ap₂ ◌+◌ (ap (λ (b : Bool). cond b 1 0) (h x (here refl))) (count-cong p q xs (λ y m. h y (there m)))

  pub count-member : (p : A → Bool) (xs : List A) (x : A) → Member x xs → p x ≡ true → 0 < count_if p xs
  unfolding count_if
  count-member p [] x m e = absurd (not-nil m)
  count-member p (y ∷ ys) x m e = ⊎_elim (λ q. omega (arith, ap {B = ℕ} (λ (b : Bool). cond b 1 0) (ap p (sym q) ∙ e)))
      (λ t. omega (arith, count-member p ys x t e)) (cases_cons m)

  pub count-all : (xs : List A) → count_if (λ _. true) xs ≡ length xs
  unfolding count_if
  count-all [] = refl
  count-all (x ∷ xs) = omega (arith, count-all xs)

pub count_map : {A B : Type 0} (p : B → Bool) (f : A → B) (xs : List A) → count_if p (map f xs) ≡ count_if (λ x. p (f x)) xs
unfolding count_if
count_map p f [] = refl
count_map p f (x ∷ xs) = ap (λ (k : ℕ). cond (p (f x)) 1 0 + k) (count_map p f xs)

and_yes : (b : Bool) → ◌≡◌ {A = ℕ} (cond (b && true) 1 0) (cond b 1 0)
and_yes true = refl
and_yes false = refl

and_no : (b : Bool) → ◌≡◌ {A = ℕ} (cond (b && false) 1 0) 0
and_no true = refl
and_no false = refl

module _ {A : Type 0} where
  -- none passes
  pub count_no : (p : A → Bool) (xs : List A) → ((x : A) → p x ≡ false) → count_if p xs ≡ 0
  unfolding count_if
  count_no p [] e = refl
  count_no p (x ∷ xs) e = ap (λ (b : Bool). cond b 1 0 + count_if p xs) (e x) ∙ omega (arith, count_no p xs e)

  pub count-one : (p : A → Bool) (x : A) → count_if p (x ∷ []) ≡ cond (p x) 1 0
  unfolding count_if
  count-one p x = add-zero (cond (p x) 1 0)

  -- equal tests, and a test that is one or the other of two
  pub count-ext : (p q : A → Bool) (xs : List A) → ((x : A) → p x ≡ q x) → count_if p xs ≡ count_if q xs
  unfolding count_if
  count-ext p q [] e = refl
  count-ext p q (x ∷ xs) e = ap (λ (b : Bool). cond b 1 0 + count_if p xs) (e x) ∙ omega (arith, count-ext p q xs e)

  pub count-split : (p q r : A → Bool) (xs : List A) → ((x : A) → ◌≡◌ {A = ℕ} (cond (p x) 1 0) (cond (q x) 1 0 + cond (r x) 1 0)) → count_if p xs ≡ count_if q xs + count_if r xs
  unfolding count_if
  count-split p q r [] e = refl
  count-split p q r (x ∷ xs) e = omega (arith, e x, count-split p q r xs e)

  -- of those that another test keeps
  pub count-filter : (p q : A → Bool) (xs : List A) → count_if p (filter q xs) ≡ count_if (λ x. p x && q x) xs
  unfolding count_if filter
  count-filter p q [] = refl
  count-filter p q (x ∷ xs) = one (q x) (count-filter p q xs)
    where
      one : (b : Bool) → count_if p (filter q xs) ≡ count_if (λ x. p x && q x) xs
          → count_if p (cond b (x ∷ filter q xs) (filter q xs)) ≡ cond (p x && b) 1 0 + count_if (λ x. p x && q x) xs
      one true e = omega (arith, and_yes (p x))
      one false e = omega (arith, and_no (p x))

  -- where none is counted, none passes
  pub count-zero-at : (p : A → Bool) (xs : List A) (d : A) → count_if p xs ≡ 0 → (i : ℕ) → i < length xs → p (get_or xs i d) ≡ false
  unfolding count_if
  count-zero-at p [] d e i h = absurd (not-suc-le-zero h)
  count-zero-at p (x ∷ xs) d e zero h = one (p x) refl
    where
      one : (b : Bool) → p x ≡ b → p x ≡ false
      one true g = let z : ◌≡◌ {A = ℕ} (cond (p x) 1 0) 1 = ap (λ (t : Bool). cond t 1 0) g in absurd (omega arith)
      one false g = g
  count-zero-at p (x ∷ xs) d e (suc i) h = count-zero-at p xs d (omega arith) i (le_of_suc-le-suc h)

pub any-count : {A : Type 0} (p : A → Bool) (xs : List A) → any p xs ≡ ltb 0 (count_if p xs)
unfolding any count_if
any-count p [] = refl
any-count p (x ∷ xs) = one (p x) (any-count p xs)
  where
    one : (b : Bool) → any p xs ≡ ltb 0 (count_if p xs) → (b || any p xs) ≡ ltb 0 (cond b 1 0 + count_if p xs)
    one true e = sym (lt-ltb 0 (1 + count_if p xs) (omega arith))
    one false e = let same : count_if p xs ≡ 0 + count_if p xs = omega arith in e ∙ ap (ltb 0) same

-- the members of a list by their places
pub count-places : (p : ℕ → Bool) (l : List ℕ) → count_if p l ≡ count_if (λ q. p (get_or l q 0)) (range 0 (length l))
count-places p l = ap (count_if p) (sym (table_of l 0) ∙ table-range (λ q. get_or l q 0) (length l)) ∙ count_map p (λ q. get_or l q 0) (range 0 (length l))

-- tests that agree below n
pub count-below : (p q : ℕ → Bool) (n : ℕ) → ((c : ℕ) → c < n → p c ≡ q c) → count_if p (range 0 n) ≡ count_if q (range 0 n)
unfolding up_from count_if
count-below p q n e = ap (count_if p) (range-up_from n) ∙ each n 0 (omega arith) ∙ sym (ap (count_if q) (range-up_from n))
  where
    each : (k lo : ℕ) → lo + k ≤ n → count_if p (up_from lo k) ≡ count_if q (up_from lo k)
    each zero lo h = refl
    each (suc k) lo h = ap₂ (λ (b : Bool) (c : ℕ). cond b 1 0 + c) (e lo (omega arith)) (each k (suc lo) (omega arith))
