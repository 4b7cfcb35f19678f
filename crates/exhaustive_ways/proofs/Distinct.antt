-- Lists of which no member stands at two places: how they are made, and sums, products and counts over them.
use Rattle.lists.proofs.Base.{◌≡◌, refl, sym, ap, ap₂, ◌∙◌, Bool, cond, ⊎_elim, ℕ, zero, suc, ◌*◌, ◌≤◌, arith, ℕ_discrete, eq-eqb, ne_eqb, eqb}
use mathlib.Core.List.Memᴰ.{cases_cons}
use mathlib.Core.List.Memᴰ.{head as here}
use mathlib.Core.List.Memᴰ.{tail as there}
use mathlib.Core.List.{List, [], ◌∷◌, ◌++◌, map, Memᴰ as Member}
use mathlib.Core.List.Memᴰ
use mathlib.Core.List.Memᴰ.{append_cases}
use mathlib.Core.List.Memᴰ.{not-nil}
use native.Mathlib.Nat.{le_antisymm, mul_assoc, mul_left_comm, mul-one}
use Rattle.lists.specs.{Ranges.up_from, Ranges.rows, Filters.count_if, Numbers.sumℕ, Numbers.productℕ, Numbers.upward}
use Rattle.lists.proofs.{Filters.count_if-append, Upward.Upward, Upward.upward-upward, Members.map-cong, Members.member-up_from, Members.member-rows}
use Rattle.lot.specs.Way.{δ}
use Rattle.exhaustive_ways.specs.Every.{Distinct}
use Rattle.lists.proofs.Tallies.{sumℕ-zeros, productℕ-ones}
use Rattle.lot.proofs.Tallies.{δ-same, δ-other}

module _ {A : Type 0} where
  pub distinct_append : (xs ys : List A) → Distinct xs → Distinct ys → ((x : A) → Member x xs → Member x ys → ⊥) → Distinct (xs ++ ys)
  unfolding Distinct
  distinct_append [] ys dx dy apart = dy
  distinct_append (x ∷ xs) ys dx dy apart = (
    (λ m. ⊎_elim dx.0 (apart x (here refl)) (append_cases xs m)),
    distinct_append xs ys dx.1 dy (λ y l r. apart y (there l) r),
  )

  -- lists of which no two share a member, one after the other
  pub distinct-rows : (n : ℕ) (f : ℕ → List A) → ((i : ℕ) → Distinct (f i)) → ((i j : ℕ) (x : A) → Member x (f i) → Member x (f j) → i ≡ j) → Distinct (rows n f)
  unfolding Distinct rows
  distinct-rows zero f d apart = tt
  distinct-rows (suc n) f d apart = distinct_append (rows n f) (f n) (distinct-rows n f d apart) (d n)
      (λ x l r. let w = member-rows n f x l in omega (arith, apart w.0 n x w.2 r, w.1))

pub distinct-map : {A B : Type 0} (f : A → B) → ((x y : A) → f x ≡ f y → x ≡ y) → (xs : List A) → Distinct xs → Distinct (map f xs)
unfolding Distinct
distinct-map f one [] d = tt
distinct-map f one (x ∷ xs) d = (
  (λ m. let r = Memᴰ.of_map f xs m in d.0 (Memᴰ.cast (one x r.0 (sym r.2)) r.1)),
  distinct-map f one xs d.1,
)

pub distinct-up_from : (lo n : ℕ) → Distinct (up_from lo n)
unfolding Distinct up_from
distinct-up_from lo zero = tt
distinct-up_from lo (suc n) = ((λ m. omega (arith, member-up_from (suc lo) n lo m)), distinct-up_from (suc lo) n)

-- ---- a list without repeats, upward: each number is below all after it

upward-distinct : (xs : List ℕ) → Upward xs → Distinct xs
unfolding Upward Distinct
upward-distinct [] u = tt
upward-distinct (x ∷ xs) u = ((λ m. omega (arith, u.0 x m)), upward-distinct xs u.1)

pub distinct-upward : (xs : List ℕ) → Distinct (upward xs)
distinct-upward xs = upward-distinct (upward xs) (upward-upward xs)

-- ---- sums and products

-- k stands once in the list
pub sumℕ-δ : (k : ℕ) (xs : List ℕ) → Distinct xs → Member k xs → sumℕ (map (λ i. δ i k) xs) ≡ 1
unfolding Distinct sumℕ
sumℕ-δ k [] d m = absurd (not-nil m)
sumℕ-δ k (x ∷ xs) d m = elim (ℕ_discrete x k) [
  | yes e ↦ omega (arith, δ-same x k e, sumℕ-zeros (λ i. δ i k) xs (λ i n. δ-other i k (λ q. d.0 (Memᴰ.cast (e ∙ sym q) n))))
  | no f ↦ omega (arith, δ-other x k f, ⊎_elim (λ e. absurd (f (sym e))) (sumℕ-δ k xs d.1) (cases_cons m))
]

-- two products that differ in one factor, which in the first is a times that in the second
pub productℕ-scale : (k a : ℕ) (f h : ℕ → ℕ) (xs : List ℕ) → Distinct xs → Member k xs → f k ≡ a * h k → ((i : ℕ) → (i ≡ k → ⊥) → f i ≡ h i)
    → productℕ (map f xs) ≡ a * productℕ (map h xs)
unfolding Distinct productℕ
productℕ-scale k a f h [] d m e s = absurd (not-nil m)
productℕ-scale k a f h (x ∷ xs) d m e s = elim (ℕ_discrete x k) [
  | yes q ↦ ap₂ ◌*◌ (ap f q ∙ e ∙ ap (λ (i : ℕ). a * h i) (sym q)) (ap productℕ (map-cong f h xs (λ i n. s i (λ r. d.0 (Memᴰ.cast (q ∙ sym r) n)))))
      ∙ mul_assoc a (h x) (productℕ (map h xs))
  | no r ↦ ap₂ ◌*◌ (s x r) (productℕ-scale k a f h xs d.1 (⊎_elim (λ e. absurd (r (sym e))) (λ t. t) (cases_cons m)) e s)
      ∙ mul_left_comm (h x) a (productℕ (map h xs))
]

-- f with 1 at k
except : (ℕ → ℕ) → ℕ → ℕ → ℕ
except f k i = cond (eqb i k) 1 (f i)

except-same : (f : ℕ → ℕ) (k i : ℕ) → i ≡ k → except f k i ≡ 1
unfolding except
except-same f k i e = ap (λ (t : Bool). cond t 1 (f i)) (eq-eqb i k e)

except-other : (f : ℕ → ℕ) (k i : ℕ) → (i ≡ k → ⊥) → except f k i ≡ f i
unfolding except
except-other f k i d = ap (λ (t : Bool). cond t 1 (f i)) (ne_eqb i k d)

-- more members, whose factors are 1
pub productℕ-more : (f : ℕ → ℕ) (xs ys : List ℕ) → Distinct xs → Distinct ys → ((x : ℕ) → Member x xs → Member x ys)
    → ((y : ℕ) → Member y ys → (Member y xs → ⊥) → f y ≡ 1) → productℕ (map f ys) ≡ productℕ (map f xs)
unfolding Distinct productℕ
productℕ-more f [] ys dx dy inside ones = productℕ-ones f ys (λ y m. ones y m not-nil)
productℕ-more f (x ∷ xs) ys dx dy inside ones = productℕ-scale x (f x) f (except f x) ys dy (inside x (here refl))
    (sym (ap (λ (k : ℕ). f x * k) (except-same f x x refl) ∙ mul-one (f x))) (λ i d. sym (except-other f x i d)) ∙ ap (λ (k : ℕ). f x * k)
    (productℕ-more (except f x) xs ys dx.1 dy (λ z m. inside z (there m)) fewer
    ∙ ap productℕ (map-cong (except f x) f xs (λ z m. except-other f x z (λ e. dx.0 (Memᴰ.cast (sym e) m)))))
  where
    fewer : (y : ℕ) → Member y ys → (Member y xs → ⊥) → except f x y ≡ 1
    fewer y m out = elim (ℕ_discrete y x) [ yes e ↦ except-same f x y e | no d ↦ except-other f x y d ∙ ones y m (λ n. ⊎_elim d out (cases_cons n)) ]

-- ---- any order: two lists of the same members, each once, have as many that pass any test

module _ {A : Type 0} where
  -- a list with a member, and without it
  split : (x : A) (ys : List A) → Member x ys → (before : List A) × (after : List A) × (ys ≡ before ++ (x ∷ after))
  split x [] m = absurd (not-nil m)
  split x (y ∷ ys) m = ⊎_elim (λ e. ([], ys, ap (λ (z : A). z ∷ ys) (sym e)))
      (λ t. let r = split x ys t in (y ∷ r.0, r.1, ap (λ (zs : List A). y ∷ zs) r.2)) (cases_cons m)

  apart : (x y : A) (before after : List A) → (y ≡ x → ⊥) → Member y (before ++ (x ∷ after)) → Member y (before ++ after)
  apart x y before after d m = ⊎_elim (λ l. Memᴰ.append_left after l)
      (λ r. ⊎_elim (λ e. absurd (d e)) (λ t. Memᴰ.append_right before t) (cases_cons r)) (append_cases before m)

  fewer-pass : (p : A → Bool) (xs ys : List A) → Distinct xs → ((x : A) → Member x xs → Member x ys) → count_if p xs ≤ count_if p ys
  unfolding Distinct count_if
  fewer-pass p [] ys d inside = omega arith
  fewer-pass p (x ∷ xs) ys d inside =
      let s = split x ys (inside x (here refl)) in
      let rest = fewer-pass p xs (s.0 ++ s.1) d.1 (λ z m. apart x z s.0 s.1 (λ e. d.0 (Memᴰ.cast (sym e) m)) (rw s.2 at (inside z (there m)))) in
      omega (arith, rest, ap (count_if p) s.2, count_if-append p s.0 s.1, count_if-append p s.0 (x ∷ s.1))

  pub any_order : (xs ys : List A) → Distinct xs → Distinct ys → ((x : A) → Member x xs → Member x ys) → ((x : A) → Member x ys → Member x xs)
      → (p : A → Bool) → count_if p xs ≡ count_if p ys
  any_order xs ys dx dy into back p = le_antisymm (fewer-pass p xs ys dx into) (fewer-pass p ys xs dy back)
