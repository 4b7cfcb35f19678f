-- What std's searches through a chain of iterators answer, in our words.
use Rattle.std.proofs.Common.{unwrap_or}
use Rattle.std.specs.List.{list_any, list_all, count_by, position_or_len, filter as std_filter, position as std_position, FoldsTo}
use Rattle.std.specs.{Fn.Called, Iterator.YieldsThen, Option.MatchOption}
use Rattle.std.proofs.lemmas.List.Recursion.{is_count_by, is_position_or_len}
use Rattle.std.proofs.lemmas.Iterator.{YieldsList}
use Rattle.std.proofs.lemmas.Iterator.Search.{any_from_yields_List, all_from_yields_List, position_from_yields_List}
use Rattle.std.specs.declared.option.Option.{Option}
use Rattle.std.specs.declared.option.Option.TheVariants.{None, Some}
use denote.Param.Members.{Mut}
use Rattle.lists.proofs.Base.{◌≡◌, refl, sym, ap, ◌∙◌, Bool, true, false, ◌&&◌, ◌||◌, cond, List, [], ◌∷◌, ℕ, ◌+◌, ◌≤◌, arith, ltb, ltb-false, length, map, get_or}
use Rattle.std.specs.List.{zip}
use Rattle.std.proofs.lemmas.Slice.Zip.{length-zip, get_or-zip}
use Rattle.lists.specs.{Ranges.range, Filters.any, Filters.all, Filters.filter, Filters.first_at, Filters.count_if}
use Rattle.lists.proofs.{Searches.first-within, Searches.any_same, Ranges.table_of, Ranges.table-range}

-- ---- std's words and ours

module _ {A : Type 0} (p : A → Bool) where
  pub any-same : (l : List A) → any p l ≡ list_any p l
  unfolding any
  any-same [] = refl
  any-same (x ∷ l) = ap (λ (b : Bool). p x || b) (any-same l)

  pub all-same : (l : List A) → all p l ≡ list_all p l
  unfolding all
  all-same [] = refl
  all-same (x ∷ l) = ap (λ (b : Bool). p x && b) (all-same l)

  pub filter-same : (l : List A) → filter p l ≡ std_filter p l
  unfolding filter
  filter-same [] = refl
  filter-same (x ∷ l) = ap (λ (r : List A). cond (p x) (x ∷ r) r) (filter-same l)

  pub count_if-same : (l : List A) → count_if p l ≡ count_by p l
  unfolding count_if
  count_if-same l = is_count_by (count_if p) p refl (λ x xs. one (p x) (count_if p xs)) l
    where
      one : (b : Bool) (n : ℕ) → cond b 1 0 + n ≡ cond b (1 + n) n
      one true n = refl
      one false n = omega arith

  pub first_at-same : (l : List A) → first_at p l ≡ position_or_len p l
  unfolding first_at
  first_at-same l = is_position_or_len (first_at p) p refl (λ x xs. ap (λ (n : ℕ). cond (p x) 0 n) (omega arith)) l

  -- From a fact in std's words. `s.contains(&x)` is answered by `search (rules, any_from)` and `s.iter().filter(..).count()` by `search (rules, count_if_from)`.
  pub any_from : {r : Bool} (l : List A) → r ≡ list_any p l → r ≡ any p l
  any_from l e = e ∙ sym (any-same l)

  pub all_from : {r : Bool} (l : List A) → r ≡ list_all p l → r ≡ all p l
  all_from l e = e ∙ sym (all-same l)

  pub count_if_from : {r : ℕ} (l : List A) → r ≡ count_by p l → r ≡ count_if p l
  count_if_from l e = e ∙ sym (count_if-same l)

  pub first_at_from : {r : Option ℕ} (l : List A) → r ≡ std_position p l → unwrap_or r (length l) ≡ first_at p l
  first_at_from l e = ap (λ (o : Option ℕ). unwrap_or o (length l)) e ∙ one (position_or_len p l) (first_at-same l) (first-within p l)
    where
      one : (k : ℕ) → first_at p l ≡ k → first_at p l ≤ length l → unwrap_or (cond (ltb k (length l)) (Some k) None) (length l) ≡ first_at p l
      one k f h = two (ltb k (length l)) refl
        where
          two : (b : Bool) → ltb k (length l) ≡ b → unwrap_or (cond b (Some k) None) (length l) ≡ first_at p l
          two true _ = sym f
          two false g = omega (arith, ltb-false k (length l) g)

-- ---- a call of `any`, `all` or `position` that ran, with the chain and what the closure computes
-- `returns c = any_ran _ _ _ _ c.any.ensures.ran (YieldsList-from_slice c.args.s.now cc) (λ x b q k. search (rules, tests))`

module _ {S A B F : Type 0} {steps : S → Option A → S → Type 0} {v : A → B} {g : Mut F (A × Unit {0}) Bool} {s : S} {l : List B} (test : B → Bool) (u : S) (f : F) where
  pub any_ran : (r : Bool) → (xs : List A) × (o : Option A) × (j : F) × YieldsThen steps s xs o u × FoldsTo (λ p x q. Called g p (x, tt) false q) f xs j
      × MatchOption o (r ≡ false) (λ x. (r ≡ true) × ((h : F) × Called g j (x, tt) true h))
      → YieldsList steps v s l → ((x : A) (b : Bool) (q : F) → Called g f (x, tt) b q → (q ≡ f) × (b ≡ test (v x))) → r ≡ any test l
  any_ran r ran chain calls = any_from test l (any_from_yields_List test u f r ran chain calls)

  pub all_ran : (r : Bool) → (xs : List A) × (o : Option A) × (j : F) × YieldsThen steps s xs o u × FoldsTo (λ p x q. Called g p (x, tt) true q) f xs j
      × MatchOption o (r ≡ true) (λ x. (r ≡ false) × ((h : F) × Called g j (x, tt) false h))
      → YieldsList steps v s l → ((x : A) (b : Bool) (q : F) → Called g f (x, tt) b q → (q ≡ f) × (b ≡ test (v x))) → r ≡ all test l
  all_ran r ran chain calls = all_from test l (all_from_yields_List test u f r ran chain calls)

  pub position_ran : (r : Option ℕ) → (xs : List A) × (o : Option A) × (j : F) × YieldsThen steps s xs o u × FoldsTo (λ p x q. Called g p (x, tt) false q) f xs j
      × MatchOption o (r ≡ None) (λ x. (r ≡ Some (length xs)) × ((h : F) × Called g j (x, tt) true h))
      → YieldsList steps v s l → ((x : A) (b : Bool) (q : F) → Called g f (x, tt) b q → (q ≡ f) × (b ≡ test (v x))) → unwrap_or r (length l) ≡ first_at test l
  position_ran r ran chain calls = first_at_from test l (position_from_yields_List test u f r ran chain calls)

-- ---- a search through a list by its places, and through two lists in step

pub any-mapped : {A B : Type 0} (p : B → Bool) (f : A → B) (l : List A) → any p (map f l) ≡ any (λ x. p (f x)) l
unfolding any
any-mapped p f [] = refl
any-mapped p f (x ∷ l) = ap (λ (b : Bool). p (f x) || b) (any-mapped p f l)

pub any-places : {A : Type 0} (p : A → Bool) (l : List A) (d : A) → any p l ≡ any (λ i. p (get_or l i d)) (range 0 (length l))
any-places p l d = ap (any p) (sym (table_of l d) ∙ table-range (λ i. get_or l i d) (length l)) ∙ any-mapped p (λ i. get_or l i d) (range 0 (length l))

pub any-zip : {A B : Type 0} (p : A × B → Bool) (xs : List A) (ys : List B) (d : A) (e : B) → length ys ≡ length xs
    → any p (zip xs ys) ≡ any (λ i. p (get_or xs i d, get_or ys i e)) (range 0 (length xs))
any-zip p xs ys d e h =
    let long : length (zip xs ys) ≡ length xs = length-zip xs ys ∙ omega arith in
    any-places p (zip xs ys) (d, e) ∙ ap (λ (n : ℕ). any (λ i. p (get_or (zip xs ys) i (d, e))) (range 0 n)) long
    ∙ any_same (λ i. p (get_or (zip xs ys) i (d, e))) (λ i. p (get_or xs i d, get_or ys i e)) (length xs) (λ i l. ap p (get_or-zip xs ys i (d, e) l (omega arith)))
