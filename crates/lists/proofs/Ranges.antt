-- Ranges, tables and rows: their first member, their last, their length and their entries.
use Rattle.lists.proofs.Base.{◌≡◌, refl, sym, ap, ap₂, ◌∙◌, subst, List, [], ◌∷◌, ◌++◌, map, ℕ, zero, suc, ◌+◌, ◌-◌, ◌*◌, ◌<◌, ◌≤◌, add-one, arith, ext_get_or}
use native.Mathlib.Nat.{not-suc-le-zero, le_of_suc-le-suc, sub-zero, zero-add, add-zero, add-suc, suc-add, suc-mul, zero-mul}
use lib.ListN.{length, get_or, length-map, length-append, get_or-map}
use Rattle.lists.specs.Ranges.{up_from, range, table, rows, grid}

-- ---- a range by its first member

pub range-more : (i hi : ℕ) → i < hi → range i hi ≡ i ∷ range (i + 1) hi
unfolding range up_from
range-more i hi h = let left : hi - i ≡ suc (hi - (i + 1)) = omega arith in rw left (rw add-one)

pub range_none : (i hi : ℕ) → hi ≤ i → range i hi ≡ []
unfolding range up_from
range_none i hi h = let left : hi - i ≡ 0 = omega arith in rw left

-- ---- by its last

up_from-last : (lo n : ℕ) → up_from lo (suc n) ≡ up_from lo n ++ ((lo + n) ∷ [])
unfolding up_from
up_from-last lo zero = ap (λ (x : ℕ). x ∷ []) (sym (add-zero lo))
up_from-last lo (suc n) =
    let e : suc lo + n ≡ lo + suc n = omega arith in
    ap (λ (t : List ℕ). lo ∷ t) (up_from-last (suc lo) n ∙ ap (λ (x : ℕ). up_from (suc lo) n ++ (x ∷ [])) e)

pub range_last : (lo hi : ℕ) → lo ≤ hi → range lo (hi + 1) ≡ range lo hi ++ (hi ∷ [])
unfolding range
range_last lo hi h =
    let more : hi + 1 - lo ≡ suc (hi - lo) = omega arith in
    let last : lo + (hi - lo) ≡ hi = omega arith in rw (more, up_from-last, last)

-- ---- its length and entries

pub length-up_from : (lo n : ℕ) → length (up_from lo n) ≡ n
unfolding up_from
length-up_from lo zero = refl
length-up_from lo (suc n) = ap suc (length-up_from (suc lo) n)

pub length-range : (lo hi : ℕ) → length (range lo hi) ≡ hi - lo
unfolding range
length-range lo hi = length-up_from lo (hi - lo)

-- a table is over the range from 0
pub range-up_from : (n : ℕ) → range 0 n ≡ up_from 0 n
unfolding range
range-up_from n = ap (up_from 0) (sub-zero n)

map-append : {A B : Type 0} (f : A → B) (xs ys : List A) → map f (xs ++ ys) ≡ map f xs ++ map f ys
map-append f [] ys = refl
map-append f (x ∷ xs) ys = ap (λ t. f x ∷ t) (map-append f xs ys)

-- one member more
pub map_last : {A B : Type 0} (f : A → B) (xs : List A) (x : A) → map f (xs ++ (x ∷ [])) ≡ map f xs ++ (f x ∷ [])
map_last f xs x = map-append f xs (x ∷ [])

-- ---- tables

module _ {A : Type 0} (f : ℕ → A) where
  pub table-last : (n : ℕ) → table (n + 1) f ≡ table n f ++ (f n ∷ [])
  unfolding table
  table-last n = rw (add-one, up_from-last) (map_last f (up_from 0 n) (0 + n) ∙ ap (λ (k : ℕ). map f (up_from 0 n) ++ (f k ∷ [])) (zero-add n))

  pub length-table : (n : ℕ) → length (table n f) ≡ n
  unfolding table
  length-table n = length-map (up_from 0 n) f ∙ length-up_from 0 n

  pub table-range : (n : ℕ) → table n f ≡ map f (range 0 n)
  unfolding table
  table-range n = ap (map f) (sym (range-up_from n))

  map-up_from : (lo n i : ℕ) (d : A) → i < n → get_or (map f (up_from lo n)) i d ≡ f (lo + i)
  unfolding up_from
  map-up_from lo zero i d h = absurd (not-suc-le-zero h)
  map-up_from lo (suc n) zero d h = ap f (sym (add-zero lo))
  map-up_from lo (suc n) (suc i) d h = map-up_from (suc lo) n i d (le_of_suc-le-suc h) ∙ ap f (suc-add lo i ∙ sym (add-suc lo i))

  pub get_or-table : (n i : ℕ) (d : A) → i < n → get_or (table n f) i d ≡ f i
  unfolding table
  get_or-table n i d h = map-up_from 0 n i d h ∙ ap f (zero-add i)

-- equal rules, equal tables
pub table-ext : {A : Type 0} (f h : ℕ → A) (n : ℕ) → ((i : ℕ) → i < n → f i ≡ h i) → table n f ≡ table n h
table-ext f h zero e = unfold table up_from in refl
table-ext f h (suc n) e =
    let before : table n f ≡ table n h = table-ext f h n (λ i g. e i (omega arith)) in
    let last : f n ≡ h n = e n (omega arith) in
    let one : n + 1 ≡ suc n = add-one n in
    ap (λ (k : ℕ). table k f) (sym one) ∙ table-last f n ∙ ap₂ (λ xs x. xs ++ (x ∷ [])) before last ∙ sym (table-last h n) ∙ ap (λ (k : ℕ). table k h) one

-- a list is the table of its entries, and its image the table of theirs
pub table_of : {A : Type 0} (l : List A) (d : A) → table (length l) (λ i. get_or l i d) ≡ l
table_of l d = ext_get_or d (table (length l) (λ i. get_or l i d)) l (length-table (λ i. get_or l i d) (length l))
    (λ i h. get_or-table (λ i. get_or l i d) (length l) i d (subst (λ (n : ℕ). i < n) (length-table (λ i. get_or l i d) (length l)) h))

pub map-table : {A B : Type 0} (f : A → B) (l : List A) (d : A) → map f l ≡ table (length l) (λ i. f (get_or l i d))
map-table f l d =
    ext_get_or (f d) (map f l) (table (length l) (λ i. f (get_or l i d))) (length-map l f ∙ sym (length-table (λ i. f (get_or l i d)) (length l)))
    (λ i h. get_or-map f l i d ∙ sym (get_or-table (λ i. f (get_or l i d)) (length l) i (f d) (subst (λ (n : ℕ). i < n) (length-map l f) h)))

-- ---- rows of w entries each

pub rows_last : {A : Type 0} (f : ℕ → List A) (n : ℕ) → rows (n + 1) f ≡ rows n f ++ f n
unfolding rows
rows_last f n = rw add-one

pub rows_ext : {A : Type 0} (f h : ℕ → List A) (n : ℕ) → ((i : ℕ) → i < n → f i ≡ h i) → rows n f ≡ rows n h
unfolding rows
rows_ext f h zero e = refl
rows_ext f h (suc n) e =
    let before : rows n f ≡ rows n h = rows_ext f h n (λ i g. e i (omega arith)) in
    let last : f n ≡ h n = e n (omega arith) in cc

pub length-rows : {A : Type 0} (w : ℕ) (f : ℕ → List A) (n : ℕ) → ((i : ℕ) → i < n → length (f i) ≡ w) → length (rows n f) ≡ n * w
unfolding rows
length-rows w f zero each = sym (zero-mul w)
length-rows w f (suc n) each =
    length-append (rows n f) (f n) ∙ ap₂ (λ (a b : ℕ). a + b) (length-rows w f n (λ i h. each i (omega arith))) (each n (omega arith)) ∙ sym (suc-mul n w)

pub length-grid : {A : Type 0} (n w : ℕ) (f : ℕ → ℕ → A) → length (grid n w f) ≡ n * w
unfolding grid
length-grid n w f = length-rows w (λ i. table w (f i)) n (λ i h. length-table (f i) w)
