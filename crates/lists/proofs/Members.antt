-- What is a member of a list: of a range, of rows, of those kept, and what a member does to a count or a test of the whole.
use Rattle.lists.proofs.Base.{◌≡◌, refl, sym, ap, ◌∙◌, ap₂, Bool, true, false, ◌||◌, cond, true≢false, ◌⊎◌, inl, inr, ⊎_elim, ℕ, zero}
use Rattle.lists.proofs.Base.{suc, ◌+◌, ◌-◌, ◌<◌, ◌≤◌, suc-le-suc, le_refl, ℕ_discrete, arith, eqb-true, eq-eqb, eqb, length, get_or}
use mathlib.Core.List.Memᴰ.{cases_cons}
use mathlib.Core.List.Memᴰ.{head as here}
use mathlib.Core.List.Memᴰ.{tail as there}
use mathlib.Core.List.{List, [], ◌∷◌, ◌++◌, map, Memᴰ as Member}
use mathlib.Core.List.Memᴰ
use mathlib.Core.List.Memᴰ.{append_cases}
use mathlib.Core.List.Memᴰ.{not-nil}
use mathlib.Core.List.{foldl}
use Rattle.lists.specs.{Filters.filter, Filters.any, Filters.count_if, Numbers.contains, Numbers.how_many, Numbers.dedup}
use Rattle.lists.specs.inner.Numbers.{Below}
use Rattle.lists.specs.Ranges.{up_from, range, table, rows, grid}
use Rattle.lists.proofs.Truths.{both_ways}

-- ---- ranges

pub member-up_from : (lo n i : ℕ) → Member i (up_from lo n) → (lo ≤ i) × (i < lo + n)
unfolding up_from
member-up_from lo zero i m = absurd (not-nil m)
member-up_from lo (suc n) i m = ⊎_elim (λ e. (omega arith, omega arith)) (λ t. let r = member-up_from (suc lo) n i t in (omega (arith, r.0), omega (arith, r.1))) (cases_cons m)

pub up_from-member : (lo n i : ℕ) → lo ≤ i → i < lo + n → Member i (up_from lo n)
unfolding up_from
up_from-member lo zero i h g = absurd (omega arith)
up_from-member lo (suc n) i h g = elim (ℕ_discrete i lo) [ yes e ↦ here e | no d ↦ there (up_from-member (suc lo) n i (omega arith) (omega arith)) ]

pub member-range : (n i : ℕ) → Member i (range 0 n) → i < n
unfolding range
member-range n i m = omega (arith, (member-up_from 0 (n - 0) i m).1)

pub range-member : (n i : ℕ) → i < n → Member i (range 0 n)
unfolding range
range-member n i h = up_from-member 0 (n - 0) i (omega arith) (omega arith)

-- ---- entries

pub member-get_or : {A : Type 0} (xs : List A) (i : ℕ) (d : A) → i < length xs → Member (get_or xs i d) xs
member-get_or [] i d h = absurd (omega arith)
member-get_or (x ∷ xs) zero d h = here refl
member-get_or (x ∷ xs) (suc i) d h = there (member-get_or xs i d (omega arith))

-- ---- tests

module _ {A : Type 0} (p : A → Bool) where
  filter-in : (b : Bool) (x y : A) (rest : List A) → (x ≡ y → b ≡ true) → (x ≡ y) ⊎ Member x rest → Member x (cond b (y ∷ rest) rest)
  filter-in true x y rest h c = ⊎_elim (λ s. here s) (λ t. there t) c
  filter-in false x y rest h c = ⊎_elim (λ s. absurd (true≢false (sym (h s)))) (λ t. t) c

  filter-out : (b : Bool) (x y : A) (rest : List A) → Member x (cond b (y ∷ rest) rest) → ((x ≡ y) × (b ≡ true)) ⊎ Member x rest
  filter-out true x y rest m = ⊎_elim (λ s. inl (s, refl)) (λ t. inr t) (cases_cons m)
  filter-out false x y rest m = inr m

  -- what is kept are the members that pass
  pub member_filter : (xs : List A) (x : A) → Member x xs → p x ≡ true → Member x (filter p xs)
  unfolding filter
  member_filter [] x m e = absurd (not-nil m)
  member_filter (y ∷ ys) x m e = filter-in (p y) x y (filter p ys) (λ s. ap p (sym s) ∙ e) (⊎_elim (λ s. inl s) (λ t. inr (member_filter ys x t e)) (cases_cons m))

  pub filter-member : (xs : List A) (x : A) → Member x (filter p xs) → (p x ≡ true) × Member x xs
  unfolding filter
  filter-member [] x m = absurd (not-nil m)
  filter-member (y ∷ ys) x m = ⊎_elim (λ s. (ap p s.0 ∙ s.1, here s.0)) (λ t. let r = filter-member ys x t in (r.0, there r.1))
      (filter-out (p y) x y (filter p ys) m)

  -- one passes: a member that passes, and the other way round
  any-in : (a b : Bool) → (a ≡ true) ⊎ (b ≡ true) → (a || b) ≡ true
  any-in true b c = refl
  any-in false b c = ⊎_elim (λ e. absurd (true≢false (sym e))) (λ e. e) c

  any_out : (a b : Bool) → (a || b) ≡ true → (a ≡ true) ⊎ (b ≡ true)
  any_out true b e = inl refl
  any_out false b e = inr e

  pub member-any : (xs : List A) (x : A) → Member x xs → p x ≡ true → any p xs ≡ true
  unfolding any
  member-any [] x m e = absurd (not-nil m)
  member-any (y ∷ ys) x m e = any-in (p y) (any p ys) (⊎_elim (λ s. inl (ap p (sym s) ∙ e)) (λ t. inr (member-any ys x t e)) (cases_cons m))

  pub any-member : (xs : List A) → any p xs ≡ true → (x : A) × Member x xs × (p x ≡ true)
  unfolding any
  any-member [] e = absurd (true≢false (sym e))
  any-member (y ∷ ys) e = ⊎_elim (λ s. (y, here refl, s)) (λ t. let r = any-member ys t in (r.0, there r.1, r.2)) (any_out (p y) (any p ys) e)

  -- none passes
  pub none_any : (xs : List A) → ((x : A) → Member x xs → p x ≡ false) → any p xs ≡ false
  unfolding any
  none_any [] h = refl
  none_any (y ∷ ys) h = ap₂ (λ (a b : Bool). a || b) (h y (here refl)) (none_any ys (λ x m. h x (there m)))

  pub any-fails : (xs : List A) → any p xs ≡ false → (x : A) → Member x xs → p x ≡ false
  any-fails xs e x m = one (p x) refl
    where
      one : (b : Bool) → p x ≡ b → p x ≡ false
      one true h = absurd (true≢false (sym (member-any xs x m h) ∙ e))
      one false h = h

  -- equal members, equal tests of the whole
  pub any-members : (xs ys : List A) → ((x : A) → Member x xs → Member x ys) → ((x : A) → Member x ys → Member x xs) → any p xs ≡ any p ys
  any-members xs ys f g = both_ways (any p xs) (any p ys)
      (λ e. let r = any-member xs e in member-any ys r.0 (f r.0 r.1) r.2)
      (λ e. let r = any-member ys e in member-any xs r.0 (g r.0 r.1) r.2)

-- ---- equal tests

module _ {A : Type 0} (p q : A → Bool) where
  pub filter-cong : (xs : List A) → ((x : A) → Member x xs → p x ≡ q x) → filter p xs ≡ filter q xs
  unfolding filter
  filter-cong [] h = refl
  filter-cong (x ∷ xs) h = λ i. cond (h x (here refl) i) (x ∷ filter-cong xs (λ y m. h y (there m)) i) (filter-cong xs (λ y m. h y (there m)) i)

-- ---- numbers below g

pub below-map : {A : Type 0} (g : ℕ) (f : A → ℕ) (xs : List A) → ((x : A) → Member x xs → f x < g) → Below g (map f xs)
below-map g f [] h i l = absurd (omega arith)
below-map g f (x ∷ xs) h zero l = h x (here refl)
below-map g f (x ∷ xs) h (suc i) l = below-map g f xs (λ y m. h y (there m)) i (omega arith)

pub below-member : (g : ℕ) (xs : List ℕ) (j : ℕ) → Below g xs → Member j xs → j < g
below-member g [] j h m = absurd (not-nil m)
below-member g (x ∷ xs) j h m = ⊎_elim (λ s. omega (arith, h 0 (omega arith))) (λ t. below-member g xs j (λ i b. h (suc i) (suc-le-suc b)) t) (cases_cons m)

-- ---- a member is counted, and what is counted is a member

pub member-how_many : (x : ℕ) (xs : List ℕ) → Member x xs → 0 < how_many x xs
unfolding how_many count_if
member-how_many x [] m = absurd (not-nil m)
member-how_many x (y ∷ ys) m = ⊎_elim (λ e. omega (arith, ap {B = ℕ} (λ (b : Bool). cond b 1 0) (eq-eqb x y e)))
    (λ t. omega (arith, member-how_many x ys t)) (cases_cons m)

counted-cases : (b : Bool) (x y : ℕ) (ys : List ℕ) → eqb x y ≡ b → (0 < count_if (eqb x) ys → Member x ys) → 0 < cond b 1 0 + count_if (eqb x) ys → Member x (y ∷ ys)
counted-cases true x y ys e f h = here (eqb-true x y e)
counted-cases false x y ys e f h = there (f (omega arith))

pub how_many-member : (x : ℕ) (xs : List ℕ) → 0 < how_many x xs → Member x xs
unfolding how_many count_if
how_many-member x [] h = absurd (omega arith)
how_many-member x (y ∷ ys) h = counted-cases (eqb x y) x y ys refl (how_many-member x ys) h

-- ---- numbers without repeats, by first appearance: every number is there

contains-step : (a : Bool) (x y : ℕ) (ys : List ℕ) (b : Bool) → (a ≡ true → x ≡ y) → (b ≡ true → Member x ys) → (a || b) ≡ true → Member x (y ∷ ys)
contains-step true x y ys b f h e = here (f refl)
contains-step false x y ys b f h e = there (h e)

pub contains-member : (x : ℕ) (ys : List ℕ) → contains x ys ≡ true → Member x ys
unfolding contains any
contains-member x [] e = absurd (true≢false (sym e))
contains-member x (y ∷ ys) e = contains-step (eqb x y) x y ys (any (eqb x) ys) (λ f. eqb-true x y f) (λ f. contains-member x ys f) e

-- one number more of those seen
abbrev pub see : List ℕ → ℕ → List ℕ
see seen x = cond (contains x seen) seen (seen ++ (x ∷ []))

seen-stays : (b : Bool) (x z : ℕ) (seen : List ℕ) → Member z seen → Member z (cond b seen (seen ++ (x ∷ [])))
seen-stays true x z seen m = m
seen-stays false x z seen m = Memᴰ.append_left (x ∷ []) m

seen-has : (b : Bool) (x : ℕ) (seen : List ℕ) → (b ≡ true → Member x seen) → Member x (cond b seen (seen ++ (x ∷ [])))
seen-has true x seen h = h refl
seen-has false x seen h = Memᴰ.append_right seen (here refl)

dedup-stay : (xs seen : List ℕ) (z : ℕ) → Member z seen → Member z (foldl see seen xs)
dedup-stay [] seen z m = m
dedup-stay (x ∷ xs) seen z m = dedup-stay xs (see seen x) z (seen-stays (contains x seen) x z seen m)

dedup-enter : (xs seen : List ℕ) (z : ℕ) → Member z xs → Member z (foldl see seen xs)
dedup-enter [] seen z m = absurd (not-nil m)
dedup-enter (x ∷ xs) seen z m = ⊎_elim (λ s. Memᴰ.cast s (dedup-stay xs (see seen x) x (seen-has (contains x seen) x seen (contains-member x seen))))
    (λ t. dedup-enter xs (see seen x) z t) (cases_cons m)

pub member-dedup : (xs : List ℕ) (z : ℕ) → Member z xs → Member z (dedup xs)
unfolding dedup
member-dedup xs z m = dedup-enter xs [] z m

-- ---- rows

module _ {A : Type 0} where
  pub member-rows : (n : ℕ) (f : ℕ → List A) (x : A) → Member x (rows n f) → (i : ℕ) × (i < n) × Member x (f i)
  unfolding rows
  member-rows zero f x m = absurd (not-nil m)
  member-rows (suc n) f x m = ⊎_elim (λ l. let r = member-rows n f x l in (r.0, omega arith, r.2)) (λ r. (n, le_refl _, r))
      (append_cases (rows n f) m)

  pub rows-member : (n : ℕ) (f : ℕ → List A) (x : A) (i : ℕ) → i < n → Member x (f i) → Member x (rows n f)
  unfolding rows
  rows-member zero f x i l m = absurd (omega arith)
  rows-member (suc n) f x i l m = elim (ℕ_discrete i n) [
    | yes e ↦ Memᴰ.append_right (rows n f) (rw e at m)
    | no d ↦ Memᴰ.append_left (f n) (rows-member n f x i (omega arith) m)
  ]

  -- an entry of a grid
  pub member-grid : (n w : ℕ) (f : ℕ → ℕ → A) (x : A) → Member x (grid n w f) → (i : ℕ) × (j : ℕ) × (i < n) × (j < w) × (f i j ≡ x)
  unfolding grid table
  member-grid n w f x m =
      let r = member-rows n (λ i. table w (f i)) x m in
      let c = Memᴰ.of_map (f r.0) (up_from 0 w) r.2 in
      (r.0, c.0, r.1, omega (arith, (member-up_from 0 w c.0 c.1).1), c.2)

-- ---- what is kept of a range is below its end

below-cons : (m a : ℕ) (l : List ℕ) → a < m → Below m l → Below m (a ∷ l)
below-cons m a l h b zero k = h
below-cons m a l h b (suc x) k = b x (omega arith)

below-up_from : (p : ℕ → Bool) (m lo n : ℕ) → lo + n ≤ m → Below m (filter p (up_from lo n))
unfolding up_from filter
below-up_from p m lo zero h = λ x b. absurd (omega arith)
below-up_from p m lo (suc n) h = one (p lo) (below-up_from p m (suc lo) n (omega arith))
  where
    rest : List ℕ
    rest = filter p (up_from (suc lo) n)

    one : (b : Bool) → Below m rest → Below m (cond b (lo ∷ rest) rest)
    one true r = below-cons m lo rest (omega arith) r
    one false r = r

-- what is kept of a range is below its end
pub filter-below : (p : ℕ → Bool) (m : ℕ) → Below m (filter p (range 0 m))
unfolding range
filter-below p m = below-up_from p m 0 (m - 0) (omega arith)

-- ---- equal rules, equal images

pub map-cong : {A B : Type 0} (f h : A → B) (xs : List A) → ((x : A) → Member x xs → f x ≡ h x) → map f xs ≡ map h xs
map-cong f h [] e = refl
map-cong f h (x ∷ xs) e = ap₂ ◌∷◌ (e x (here refl)) (map-cong f h xs (λ y m. e y (there m)))
