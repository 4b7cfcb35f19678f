-- Filters, counts and searches: one member more, at the front (a loop that holds what is left) and at the end (a loop that holds what is done).
use Rattle.lists.proofs.Base.{◌≡◌, refl, sym, ap, ◌∙◌, Bool, true, false, ◌||◌, cond, List, [], ◌∷◌, ◌++◌, append-nil, ℕ, suc}
use Rattle.lists.proofs.Base.{◌+◌, ◌<◌, ◌≤◌, add-zero, add-one, arith, length, get_or, drop, drop_of_length-le, drop-cons}
use Rattle.lists.specs.{Ranges.range, Filters.filter, Filters.count_if, Filters.any, Filters.first_at}
use Rattle.lists.proofs.Ranges.{range-more, range_none, range_last}

-- what is left of a list from place i on
pub drop_more : {A : Type 0} (l : List A) (i : ℕ) (d : A) → i < length l → drop i l ≡ get_or l i d ∷ drop (i + 1) l
drop_more l i d h = rw (add-one, drop-cons l i d)

module _ {A : Type 0} (p : A → Bool) where
  -- ---- the first member passes, or not
  pub filter-yes : (x : A) (xs : List A) → p x ≡ true → filter p (x ∷ xs) ≡ x ∷ filter p xs
  unfolding filter
  filter-yes x xs e = ap (λ (t : Bool). cond t (x ∷ filter p xs) (filter p xs)) e

  pub filter-no : (x : A) (xs : List A) → p x ≡ false → filter p (x ∷ xs) ≡ filter p xs
  unfolding filter
  filter-no x xs e = ap (λ (t : Bool). cond t (x ∷ filter p xs) (filter p xs)) e

  pub count_if-yes : (x : A) (xs : List A) → p x ≡ true → count_if p (x ∷ xs) ≡ 1 + count_if p xs
  unfolding count_if
  count_if-yes x xs e = ap (λ (t : Bool). cond t 1 0 + count_if p xs) e

  pub count_if-no : (x : A) (xs : List A) → p x ≡ false → count_if p (x ∷ xs) ≡ count_if p xs
  unfolding count_if
  count_if-no x xs e = ap (λ (t : Bool). cond t 1 0 + count_if p xs) e ∙ omega arith

  -- ---- two lists, one after the other
  pub filter-append : (xs ys : List A) → filter p (xs ++ ys) ≡ filter p xs ++ filter p ys
  unfolding filter
  filter-append [] ys = refl
  filter-append (x ∷ xs) ys = one (p x) (filter-append xs ys)
    where
      one : (b : Bool) → filter p (xs ++ ys) ≡ filter p xs ++ filter p ys
          → cond b (x ∷ filter p (xs ++ ys)) (filter p (xs ++ ys)) ≡ cond b (x ∷ filter p xs) (filter p xs) ++ filter p ys
      one true e = ap (λ (t : List A). x ∷ t) e
      one false e = e

  pub count_if-append : (xs ys : List A) → count_if p (xs ++ ys) ≡ count_if p xs + count_if p ys
  unfolding count_if
  count_if-append [] ys = omega arith
  count_if-append (x ∷ xs) ys = omega (arith, count_if-append xs ys)

  -- the last member passes, or not
  pub filter-last-yes : (xs : List A) (x : A) → p x ≡ true → filter p (xs ++ (x ∷ [])) ≡ filter p xs ++ (x ∷ [])
  unfolding filter
  filter-last-yes xs x e = filter-append xs (x ∷ []) ∙ ap (λ (t : List A). filter p xs ++ t) (filter-yes x [] e)

  pub filter-last-no : (xs : List A) (x : A) → p x ≡ false → filter p (xs ++ (x ∷ [])) ≡ filter p xs
  unfolding filter
  filter-last-no xs x e = filter-append xs (x ∷ []) ∙ ap (λ (t : List A). filter p xs ++ t) (filter-no x [] e) ∙ append-nil (filter p xs)

  -- ---- a count is a length
  pub length-filter : (xs : List A) → length (filter p xs) ≡ count_if p xs
  unfolding filter count_if
  length-filter [] = refl
  length-filter (x ∷ xs) = one (p x) (length-filter xs)
    where
      one : (b : Bool) → length (filter p xs) ≡ count_if p xs → length (cond b (x ∷ filter p xs) (filter p xs)) ≡ cond b 1 0 + count_if p xs
      one true e = omega arith
      one false e = omega arith

  pub count_if-below : (xs : List A) → count_if p xs ≤ length xs
  unfolding count_if
  count_if-below [] = omega arith
  count_if-below (x ∷ xs) = one (p x) (count_if-below xs)
    where
      one : (b : Bool) → count_if p xs ≤ length xs → cond b 1 0 + count_if p xs ≤ length (x ∷ xs)
      one true h = omega arith
      one false h = omega arith

  -- ---- a search through a list, from place i on
  module _ (l : List A) (i : ℕ) (d : A) where
    pub any_here : i < length l → p (get_or l i d) ≡ true → any p (drop i l) ≡ true
    unfolding any
    any_here h e = ap (any p) (drop_more l i d h) ∙ ap (λ (b : Bool). b || any p (drop (i + 1) l)) e

    pub any-later : i < length l → p (get_or l i d) ≡ false → any p (drop i l) ≡ any p (drop (i + 1) l)
    unfolding any
    any-later h e = ap (any p) (drop_more l i d h) ∙ ap (λ (b : Bool). b || any p (drop (i + 1) l)) e

    pub count-here : i < length l → p (get_or l i d) ≡ true → count_if p (drop i l) ≡ 1 + count_if p (drop (i + 1) l)
    count-here h e = ap (count_if p) (drop_more l i d h) ∙ count_if-yes (get_or l i d) (drop (i + 1) l) e

    pub count-later : i < length l → p (get_or l i d) ≡ false → count_if p (drop i l) ≡ count_if p (drop (i + 1) l)
    count-later h e = ap (count_if p) (drop_more l i d h) ∙ count_if-no (get_or l i d) (drop (i + 1) l) e

    -- i members were passed, and none of them is the first: `i + first_at p (drop i l) ≡ first_at p l`
    pub first-here : i < length l → p (get_or l i d) ≡ true → i + first_at p (drop i l) ≡ i
    unfolding first_at
    first-here h e = ap (λ (t : List A). i + first_at p t) (drop_more l i d h) ∙ ap (λ (b : Bool). i + cond b 0 (suc (first_at p (drop (i + 1) l)))) e ∙ add-zero i

    pub first-later : i < length l → p (get_or l i d) ≡ false → i + first_at p (drop i l) ≡ i + 1 + first_at p (drop (i + 1) l)
    unfolding first_at
    first-later h e = ap (λ (t : List A). i + first_at p t) (drop_more l i d h) ∙ ap (λ (b : Bool). i + cond b 0 (suc (first_at p (drop (i + 1) l)))) e ∙ omega arith

  module _ (l : List A) (i : ℕ) (h : length l ≤ i) where
    pub any_none : any p (drop i l) ≡ false
    unfolding any
    any_none = ap (any p) (drop_of_length-le l h)

    pub count_none : count_if p (drop i l) ≡ 0
    unfolding count_if
    count_none = ap (count_if p) (drop_of_length-le l h)

    pub first-none : i + first_at p (drop i l) ≡ i
    unfolding first_at
    first-none = ap (λ (t : List A). i + first_at p t) (drop_of_length-le l h) ∙ add-zero i

-- ---- through a range

module _ (p : ℕ → Bool) (i hi : ℕ) where
  pub filter-step-yes : i < hi → p i ≡ true → filter p (range i hi) ≡ i ∷ filter p (range (i + 1) hi)
  filter-step-yes h e = ap (filter p) (range-more i hi h) ∙ filter-yes p i (range (i + 1) hi) e

  pub filter-step-no : i < hi → p i ≡ false → filter p (range i hi) ≡ filter p (range (i + 1) hi)
  filter-step-no h e = ap (filter p) (range-more i hi h) ∙ filter-no p i (range (i + 1) hi) e

  pub filter-done : hi ≤ i → filter p (range i hi) ≡ []
  unfolding filter
  filter-done h = ap (filter p) (range_none i hi h)

  pub range-any-here : i < hi → p i ≡ true → any p (range i hi) ≡ true
  unfolding any
  range-any-here h e = ap (any p) (range-more i hi h) ∙ ap (λ (b : Bool). b || any p (range (i + 1) hi)) e

  pub range-any-later : i < hi → p i ≡ false → any p (range i hi) ≡ any p (range (i + 1) hi)
  unfolding any
  range-any-later h e = ap (any p) (range-more i hi h) ∙ ap (λ (b : Bool). b || any p (range (i + 1) hi)) e

  pub range-any-none : hi ≤ i → any p (range i hi) ≡ false
  unfolding any
  range-any-none h = ap (any p) (range_none i hi h)

  pub range-count-yes : i < hi → p i ≡ true → count_if p (range i hi) ≡ 1 + count_if p (range (i + 1) hi)
  range-count-yes h e = ap (count_if p) (range-more i hi h) ∙ count_if-yes p i (range (i + 1) hi) e

  pub range-count-no : i < hi → p i ≡ false → count_if p (range i hi) ≡ count_if p (range (i + 1) hi)
  range-count-no h e = ap (count_if p) (range-more i hi h) ∙ count_if-no p i (range (i + 1) hi) e

  pub range-count-none : hi ≤ i → count_if p (range i hi) ≡ 0
  unfolding count_if
  range-count-none h = ap (count_if p) (range_none i hi h)

-- what has been kept of lo, .., i - 1, with i
module _ (p : ℕ → Bool) (lo i : ℕ) (h : lo ≤ i) where
  pub kept-last-yes : p i ≡ true → filter p (range lo (i + 1)) ≡ filter p (range lo i) ++ (i ∷ [])
  kept-last-yes e = ap (filter p) (range_last lo i h) ∙ filter-last-yes p (range lo i) i e

  pub kept-last-no : p i ≡ false → filter p (range lo (i + 1)) ≡ filter p (range lo i)
  kept-last-no e = ap (filter p) (range_last lo i h) ∙ filter-last-no p (range lo i) i e

-- a loop that counts: a are counted, and the rest of the range brings it to t
module _ (p : ℕ → Bool) (i hi : ℕ) {t : ℕ} where
  pub count_turn : (a : ℕ) {a' : ℕ} {b : Bool} → i < hi → b ≡ p i → a' ≡ cond b 1 0 + a → a + count_if p (range i hi) ≡ t → a' + count_if p (range (i + 1) hi) ≡ t
  unfolding count_if
  count_turn a {a'} {b} h e g inv =
      let here : count_if p (range i hi) ≡ cond b 1 0 + count_if p (range (i + 1) hi) =
      ap (count_if p) (range-more i hi h) ∙ ap (λ (u : Bool). cond u 1 0 + count_if p (range (i + 1) hi)) (sym e) in omega arith

  pub count-end : (a : ℕ) → hi ≤ i → a + count_if p (range i hi) ≡ t → a ≡ t
  count-end a h inv = let none : count_if p (range i hi) ≡ 0 = range-count-none p i hi h in omega arith

-- one or none is counted
pub one_more : (b : Bool) (a : ℕ) → cond b 1 0 + a ≤ a + 1
one_more true a = omega arith
one_more false a = omega arith
