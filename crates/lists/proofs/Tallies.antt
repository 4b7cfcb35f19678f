-- Sums, products and counts of whole numbers; whether a number stands in a list.
use Rattle.lists.proofs.Base.{◌≡◌, refl, sym, ap, ◌∙◌, ap₂, Bool, ◌||◌, ◌⊎◌, inl, inr, ⊎_elim, ℕ, zero, suc, ◌+◌, ◌-◌, ◌<◌, ◌≤◌, ◌*◌, add-one, arith, eqb}
use Rattle.lists.proofs.Base.{length, get_or, take, drop, take-append-drop, length-append, set, length-set, ext_get_or, get_or-set_same, get_or-set_other}
use mathlib.Core.List.Memᴰ.{head as here}
use mathlib.Core.List.Memᴰ.{tail as there}
use mathlib.Core.List.{List, [], ◌∷◌, map, Memᴰ as Member}
use mathlib.Core.List.Memᴰ.{cases_cons}
use mathlib.Core.List.Memᴰ.{not-nil}
use mathlib.Core.List.{map-id}
use native.Mathlib.Nat.{zero-mul, add-mul, mul-pos}
use Rattle.lists.specs.{Filters.any, Numbers.sumℕ, Numbers.productℕ, Numbers.factorial, Numbers.contains}
use Rattle.lists.specs.Ranges.{up_from, range, table, rows}
use Rattle.lists.proofs.{Numbers.sumℕ-append, Parts.take_more, Ranges.table-last, Ranges.length-table, Ranges.table-range, Ranges.get_or-table}
use Rattle.lists.proofs.{Searches.any_append, Truths.or-false, Truths.same_or_not}

-- ---- sums and products of f over the members of a list

module _ {A : Type 0} where
  pub sumℕ-add : (f h : A → ℕ) (xs : List A) → sumℕ (map (λ x. f x + h x) xs) ≡ sumℕ (map f xs) + sumℕ (map h xs)
  unfolding sumℕ
  sumℕ-add f h [] = refl
  sumℕ-add f h (x ∷ xs) = omega (arith, sumℕ-add f h xs)

  pub sumℕ-mul : (f : A → ℕ) (a : ℕ) (xs : List A) → sumℕ (map (λ x. f x * a) xs) ≡ sumℕ (map f xs) * a
  unfolding sumℕ
  sumℕ-mul f a [] = sym (zero-mul a)
  sumℕ-mul f a (x ∷ xs) = ap (λ (k : ℕ). f x * a + k) (sumℕ-mul f a xs) ∙ sym (add-mul (f x) (sumℕ (map f xs)) a)

  pub sumℕ-zeros : (f : A → ℕ) (xs : List A) → ((x : A) → Member x xs → f x ≡ 0) → sumℕ (map f xs) ≡ 0
  unfolding sumℕ
  sumℕ-zeros f [] e = refl
  sumℕ-zeros f (x ∷ xs) e = omega (arith, e x (here refl), sumℕ-zeros f xs (λ y m. e y (there m)))

  pub sumℕ-term : (f : A → ℕ) (xs : List A) (x : A) → Member x xs → f x ≤ sumℕ (map f xs)
  unfolding sumℕ
  sumℕ-term f [] x m = absurd (not-nil m)
  sumℕ-term f (y ∷ ys) x m = ⊎_elim (λ e. omega (arith, ap f e)) (λ t. omega (arith, sumℕ-term f ys x t)) (cases_cons m)

  pub productℕ-ones : (f : A → ℕ) (xs : List A) → ((x : A) → Member x xs → f x ≡ 1) → productℕ (map f xs) ≡ 1
  unfolding productℕ
  productℕ-ones f [] e = refl
  productℕ-ones f (x ∷ xs) e = ap₂ ◌*◌ (e x (here refl)) (productℕ-ones f xs (λ y m. e y (there m)))

  pub productℕ-pos : (f : A → ℕ) (xs : List A) → ((x : A) → 0 < f x) → 0 < productℕ (map f xs)
  unfolding productℕ
  productℕ-pos f [] p = omega arith
  productℕ-pos f (x ∷ xs) p = mul-pos (p x) (productℕ-pos f xs p)

pub sumℕ-table : (f : ℕ → ℕ) (n : ℕ) → sumℕ (table (suc n) f) ≡ sumℕ (table n f) + f n
unfolding sumℕ
sumℕ-table f n = rw (← add-one n, table-last f n, sumℕ-append) (omega arith)

pub factorial-pos : (n : ℕ) → 0 < factorial n
unfolding factorial
factorial-pos zero = omega arith
factorial-pos (suc n) = mul-pos (omega arith) (factorial-pos n)

pub factorial-less : (n : ℕ) → 0 < n → factorial n ≡ n * factorial (n - 1)
unfolding factorial
factorial-less zero h = absurd (omega arith)
factorial-less (suc n) h = let e : n ≡ suc n - 1 = omega arith in ap (λ (k : ℕ). suc n * factorial k) e

module _ {A : Type 0} where
  -- as many as the rows have together
  pub length-rows-sum : (n : ℕ) (f : ℕ → List A) → length (rows n f) ≡ sumℕ (table n (λ i. length (f i)))
  unfolding rows
  length-rows-sum zero f = unfold table up_from sumℕ in refl
  length-rows-sum (suc n) f =
      length-append (rows n f) (f n) ∙ ap (λ (k : ℕ). k + length (f n)) (length-rows-sum n f) ∙ sym (sumℕ-table (λ i. length (f i)) n)

-- ---- fronts of a list

pub sumℕ-next : (l : List ℕ) (i : ℕ) → i < length l → sumℕ (take (i + 1) l) ≡ sumℕ (take i l) + get_or l i 0
unfolding sumℕ
sumℕ-next l i h = ap sumℕ (take_more l i 0 h) ∙ sumℕ-append (take i l) (get_or l i 0 ∷ []) ∙ omega arith

pub sumℕ-front : (l : List ℕ) (i : ℕ) → sumℕ (take i l) ≤ sumℕ l
sumℕ-front l i = omega (arith, sym (sumℕ-append (take i l) (drop i l)) ∙ ap sumℕ (take-append-drop i l))

-- ---- whether a number stands in a list

pub contains-cons : (h x : ℕ) (xs : List ℕ) → contains h (x ∷ xs) ≡ (eqb h x || contains h xs)
unfolding contains any
contains-cons h x xs = refl

-- one member more
pub contains-next : (h : ℕ) (s : List ℕ) (i : ℕ) → i < length s → contains h (take (i + 1) s) ≡ (contains h (take i s) || eqb h (get_or s i 0))
unfolding contains any
contains-next h s i g =
    ap (any (eqb h)) (take_more s i 0 g) ∙ any_append (eqb h) (take i s) (get_or s i 0 ∷ []) ∙ ap (λ (b : Bool). any (eqb h) (take i s) || b) (or-false (eqb h (get_or s i 0)))

-- ---- tables

pub table-numbers : (n : ℕ) → table n (λ k. k) ≡ range 0 n
table-numbers n = table-range (λ k. k) n ∙ map-id (range 0 n)

-- one entry of a table of counts, one more

module _ (f g : ℕ → ℕ) (n d : ℕ) (h : d < n) (here : g d ≡ f d + 1) (there : (k : ℕ) → (k ≡ d → ⊥) → g k ≡ f k) where
  table-bumped : (k : ℕ) → k < n → (k ≡ d) ⊎ (k ≡ d → ⊥) → get_or (set (table n f) d (get_or (table n f) d 0 + 1)) k 0 ≡ g k
  table-bumped k l (inl e) =
      let long = length-table f n in
      ap (λ (j : ℕ). get_or (set (table n f) d (get_or (table n f) d 0 + 1)) j 0) e
      ∙ get_or-set_same (table n f) d (get_or (table n f) d 0 + 1) 0 (omega arith) ∙ ap (λ (v : ℕ). v + 1) (get_or-table f n d 0 h) ∙ sym here ∙ sym (ap g e)
  table-bumped k l (inr e) = get_or-set_other (table n f) d k (get_or (table n f) d 0 + 1) 0 e ∙ get_or-table f n k 0 l ∙ sym (there k e)

  pub table-bump : set (table n f) d (get_or (table n f) d 0 + 1) ≡ table n g
  table-bump =
      let long : length (set (table n f) d (get_or (table n f) d 0 + 1)) ≡ n = length-set (table n f) d (get_or (table n f) d 0 + 1) ∙ length-table f n in
      ext_get_or 0 (set (table n f) d (get_or (table n f) d 0 + 1)) (table n g) (long ∙ sym (length-table g n))
      (λ k l. let m : k < n = omega arith in table-bumped k m (same_or_not k d) ∙ sym (get_or-table g n k 0 m))
