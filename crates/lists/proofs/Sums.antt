-- The laws by which a loop is a sum: one turn (`-turn`), the end (`-end`).
-- A loop `for i in lo..hi { s = s + f(i); }` has the invariant "the sum of what is left, from s, is the whole sum":
--     sum_from s (map f (range i hi)) ≡ sum_from s₀ (map f (range lo hi))
-- It begins by `refl`; `sum-turn` and `sum-end` take the invariant and hand it on. The same over a list by its places, and over pairs.
use Rattle.lists.proofs.Base.{◌≡◌, refl, sym, ap, ◌∙◌, Bool, true, false, List, [], ◌∷◌, ◌++◌, map, ℕ, ◌+◌, ◌<◌, ◌≤◌, length, get_or, drop, drop_of_length-le, Float}
use Rattle.float.specs.Floats.{◌⊕◌}
use Rattle.lists.specs.{Ranges.range, Ranges.table, Ranges.rows, Filters.filter, Filters.pairs, Filters.ordered_pairs, Sums.sum_from}
use Rattle.lists.proofs.Ranges.{range-more, range_none, table-range, rows_last}
use Rattle.lists.proofs.Filters.{drop_more, filter-step-yes, filter-step-no, filter-done}

pub sum-append : (s : Float) (xs ys : List Float) → sum_from s (xs ++ ys) ≡ sum_from (sum_from s xs) ys
unfolding sum_from
sum-append s [] ys = refl
sum-append s (x ∷ xs) ys = sum-append (s ⊕ x) xs ys

-- a sum over what is left, `ks`: the next is k, or there is none
module _ {A : Type 0} (f : A → Float) (s : Float) {t : Float} where
  pub left-turn : {k : A} {ks rest : List A} {x s' : Float} → ks ≡ k ∷ rest → x ≡ f k → s' ≡ s ⊕ x → sum_from s (map f ks) ≡ t → sum_from s' (map f rest) ≡ t
  unfolding sum_from
  left-turn {k} {ks} {rest} {x} {s'} split e g inv =
      ap (λ (y : Float). sum_from y (map f rest)) (g ∙ ap (λ (y : Float). s ⊕ y) e) ∙ ap (λ (l : List A). sum_from s (map f l)) (sym split) ∙ inv

  pub left_end : {ks : List A} → ks ≡ [] → sum_from s (map f ks) ≡ t → s ≡ t
  unfolding sum_from
  left_end none inv = ap (λ (l : List A). sum_from s (map f l)) (sym none) ∙ inv

-- ---- over a range, and over those of it that pass a test

module _ (f : ℕ → Float) (s : Float) {t : Float} (i hi : ℕ) where
  pub sum-turn : {x s' : Float} → i < hi → x ≡ f i → s' ≡ s ⊕ x → sum_from s (map f (range i hi)) ≡ t → sum_from s' (map f (range (i + 1) hi)) ≡ t
  sum-turn h e g inv = left-turn f s (range-more i hi h) e g inv

  pub sum-end : hi ≤ i → sum_from s (map f (range i hi)) ≡ t → s ≡ t
  sum-end h inv = left_end f s (range_none i hi h) inv

  pub kept-turn : {x s' : Float} (p : ℕ → Bool) → i < hi → p i ≡ true → x ≡ f i → s' ≡ s ⊕ x
      → sum_from s (map f (filter p (range i hi))) ≡ t → sum_from s' (map f (filter p (range (i + 1) hi))) ≡ t
  kept-turn p h b e g inv = left-turn f s (filter-step-yes p i hi h b) e g inv

  pub kept-pass : (p : ℕ → Bool) → i < hi → p i ≡ false → sum_from s (map f (filter p (range i hi))) ≡ t → sum_from s (map f (filter p (range (i + 1) hi))) ≡ t
  kept-pass p h b inv = ap (λ (l : List ℕ). sum_from s (map f l)) (sym (filter-step-no p i hi h b)) ∙ inv

  pub kept-end : (p : ℕ → Bool) → hi ≤ i → sum_from s (map f (filter p (range i hi))) ≡ t → s ≡ t
  kept-end p h inv = left_end f s (filter-done p i hi h) inv

-- a table's sum, as the sum over the range that it is
pub sum-table : (s : Float) (n : ℕ) (f : ℕ → Float) → sum_from s (table n f) ≡ sum_from s (map f (range 0 n))
sum-table s n f = ap (sum_from s) (table-range f n)

-- ---- over a list by its places: `for x in 0..l.len() { s = s + f(l[x]); }`

module _ {A : Type 0} (f : A → Float) (s : Float) {t : Float} (l : List A) (i : ℕ) where
  pub list-turn : {x s' : Float} (d : A) → i < length l → x ≡ f (get_or l i d) → s' ≡ s ⊕ x → sum_from s (map f (drop i l)) ≡ t → sum_from s' (map f (drop (i + 1) l)) ≡ t
  list-turn d h e g inv = left-turn f s (drop_more l i d h) e g inv

  pub list-end : length l ≤ i → sum_from s (map f (drop i l)) ≡ t → s ≡ t
  list-end h inv = left_end f s (drop_of_length-le l h) inv

-- a list of floats itself
module _ (s : Float) {t : Float} (l : List Float) (i : ℕ) where
  pub floats-turn : {x s' : Float} (d : Float) → i < length l → x ≡ get_or l i d → s' ≡ s ⊕ x → sum_from s (drop i l) ≡ t → sum_from s' (drop (i + 1) l) ≡ t
  unfolding sum_from
  floats-turn {x} {s'} d h e g inv =
      ap (λ (y : Float). sum_from y (drop (i + 1) l)) (g ∙ ap (λ (y : Float). s ⊕ y) e) ∙ ap (sum_from s) (sym (drop_more l i d h)) ∙ inv

  pub floats-end : length l ≤ i → sum_from s (drop i l) ≡ t → s ≡ t
  unfolding sum_from
  floats-end h inv = ap (sum_from s) (sym (drop_of_length-le l h)) ∙ inv

-- ---- over pairs of a list by its places: s' is s with the pairs of member i and each later one, or with its row of ordered pairs

module _ {A : Type 0} (f : A → A → Float) (s : Float) {t : Float} (l : List A) (i : ℕ) where
  pub pairs-turn : {s' : Float} (d : A) → i < length l → s' ≡ sum_from s (map (f (get_or l i d)) (drop (i + 1) l))
      → sum_from s (pairs f (drop i l)) ≡ t → sum_from s' (pairs f (drop (i + 1) l)) ≡ t
  unfolding pairs
  pairs-turn d h g inv =
      let rest = drop (i + 1) l in
      ap (λ (y : Float). sum_from y (pairs f rest)) g ∙ sym (sum-append s (map (f (get_or l i d)) rest) (pairs f rest))
      ∙ ap (λ (ks : List A). sum_from s (pairs f ks)) (sym (drop_more l i d h)) ∙ inv

  pub pairs_end : length l ≤ i → sum_from s (pairs f (drop i l)) ≡ t → s ≡ t
  unfolding sum_from pairs
  pairs_end h inv = ap (λ (ks : List A). sum_from s (pairs f ks)) (sym (drop_of_length-le l h)) ∙ inv

module _ {A B : Type 0} (f : A → B → Float) (s : Float) {t : Float} (l : List A) (ys : List B) (i : ℕ) where
  pub ordered-turn : {s' : Float} (d : A) → i < length l → s' ≡ sum_from s (map (f (get_or l i d)) ys)
      → sum_from s (ordered_pairs f (drop i l) ys) ≡ t → sum_from s' (ordered_pairs f (drop (i + 1) l) ys) ≡ t
  unfolding ordered_pairs
  ordered-turn d h g inv = ap (λ (y : Float). sum_from y (ordered_pairs f (drop (i + 1) l) ys)) g
      ∙ sym (sum-append s (map (f (get_or l i d)) ys) (ordered_pairs f (drop (i + 1) l) ys))
      ∙ ap (λ (ks : List A). sum_from s (ordered_pairs f ks ys)) (sym (drop_more l i d h)) ∙ inv

  pub ordered_end : length l ≤ i → sum_from s (ordered_pairs f (drop i l) ys) ≡ t → s ≡ t
  unfolding sum_from ordered_pairs
  ordered_end h inv = ap (λ (ks : List A). sum_from s (ordered_pairs f ks ys)) (sym (drop_of_length-le l h)) ∙ inv

-- ---- a sum over rows, one row more

pub sum-rows-none : (s : Float) (f : ℕ → List Float) → s ≡ sum_from s (rows 0 f)
unfolding sum_from rows
sum-rows-none s f = refl

pub sum-rows-next : (s : Float) (f : ℕ → List Float) (k : ℕ) {t t' : Float} → t ≡ sum_from s (rows k f) → t' ≡ sum_from t (f k) → t' ≡ sum_from s (rows (k + 1) f)
sum-rows-next s f k e h = h ∙ ap (λ (x : Float). sum_from x (f k)) e ∙ sym (sum-append s (rows k f) (f k)) ∙ ap (sum_from s) (sym (rows_last f k))
