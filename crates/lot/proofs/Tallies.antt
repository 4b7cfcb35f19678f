-- Counts of labels within strata: what a sample adds, which sample there is for a count, and that a way keeps every count of the whole.
use Rattle.lists.proofs.Base.{◌≡◌, refl, sym, ap, ap₂, ◌∙◌, Bool, true, false, ◌&&◌, cond, ◌⊎◌, inl, inr, ⊎_elim, List, [], ◌∷◌, ℕ, zero, suc}
use Rattle.lists.proofs.Base.{◌+◌, ◌*◌, ◌<◌, suc-le-suc, arith, ℕ_discrete, dec_lt, eq-eqb, ne_eqb, lt-ltb, le-ltb, eqb, ltb, length, get_or}
use native.Mathlib.Nat.{zero-mul, mul-zero, mul-one, one-mul, mul-add}
use Rattle.lists.specs.{Filters.count_if, Numbers.how_many}
use Rattle.lists.specs.inner.Numbers.{Below}
use Rattle.lot.specs.Way.{δ, mark, tally}

-- ---- one sample

pub δ-same : (a b : ℕ) → a ≡ b → δ a b ≡ 1
unfolding δ
δ-same a b e = ap (λ (t : Bool). cond t 1 0) (eq-eqb a b e)

pub δ-other : (a b : ℕ) → (a ≡ b → ⊥) → δ a b ≡ 0
unfolding δ
δ-other a b d = ap (λ (t : Bool). cond t 1 0) (ne_eqb a b d)

pub mark-same : (s₀ j₀ s j : ℕ) → s ≡ s₀ → j ≡ j₀ → mark s₀ j₀ s j ≡ 1
unfolding mark
mark-same s₀ j₀ s j p q = ap₂ ◌*◌ (δ-same s s₀ p) (δ-same j j₀ q)

pub mark-stratum : (s₀ j₀ s j : ℕ) → (s ≡ s₀ → ⊥) → mark s₀ j₀ s j ≡ 0
unfolding mark
mark-stratum s₀ j₀ s j d = ap (λ (k : ℕ). k * δ j j₀) (δ-other s s₀ d) ∙ zero-mul _

pub mark-label : (s₀ j₀ s j : ℕ) → (j ≡ j₀ → ⊥) → mark s₀ j₀ s j ≡ 0
unfolding mark
mark-label s₀ j₀ s j d = ap (λ (k : ℕ). δ s s₀ * k) (δ-other j j₀ d) ∙ mul-zero _

pub mark-cases : (s₀ j₀ s j : ℕ) → ((s ≡ s₀) × (j ≡ j₀) × (mark s₀ j₀ s j ≡ 1)) ⊎ (mark s₀ j₀ s j ≡ 0)
mark-cases s₀ j₀ s j = elim (ℕ_discrete s s₀) [
  | yes p ↦ elim (ℕ_discrete j j₀) [ yes q ↦ inl (p, q, mark-same s₀ j₀ s j p q) | no d ↦ inr (mark-label s₀ j₀ s j d) ]
  | no d ↦ inr (mark-stratum s₀ j₀ s j d)
]

mark-own : (s s₀ j₀ j : ℕ) → s ≡ s₀ → mark s₀ j₀ s j ≡ δ j j₀
unfolding mark
mark-own s s₀ j₀ j e = ap (λ (k : ℕ). k * δ j j₀) (δ-same s s₀ e) ∙ one-mul (δ j j₀)

-- ---- a sample for each count

-- a sample's own label is counted in its stratum
pub tally-own : (ss labels : List ℕ) (i : ℕ) → i < length ss → i < length labels → 0 < tally ss labels (get_or ss i 0) (get_or labels i 0)
unfolding tally
tally-own [] labels i p q = absurd (omega arith)
tally-own (s₀ ∷ ss) [] i p q = absurd (omega arith)
tally-own (s₀ ∷ ss) (j₀ ∷ l) zero p q = omega (arith, mark-same s₀ j₀ s₀ j₀ refl refl)
tally-own (s₀ ∷ ss) (j₀ ∷ l) (suc i) p q = omega (arith, tally-own ss l i (omega arith) (omega arith))

-- the sample i has the stratum s and the label j
pub record Counted (ss labels : List ℕ) (s j i : ℕ) : Type 0 where
  pub in_strata : i < length ss
  pub in_labels : i < length labels
  pub stratum : get_or ss i 0 ≡ s
  pub label : get_or labels i 0 ≡ j

-- what is counted is some sample
pub tally-some : (ss labels : List ℕ) (s j : ℕ) → 0 < tally ss labels s j → (i : ℕ) × Counted ss labels s j i
unfolding tally
tally-some [] labels s j h = absurd (omega arith)
tally-some (s₀ ∷ ss) [] s j h = absurd (omega arith)
tally-some (s₀ ∷ ss) (j₀ ∷ l) s j h = ⊎_elim
    (λ w. (0, record { in_strata = omega arith; in_labels = omega arith; stratum = sym w.0; label = sym w.1 }))
    (λ z. let r = tally-some ss l s j (omega arith) in (
      suc r.0,
      record { in_strata = suc-le-suc r.1.in_strata; in_labels = suc-le-suc r.1.in_labels; stratum = r.1.stratum; label = r.1.label },
    )) (mark-cases s₀ j₀ s j)

-- ---- the count of a label in the whole: stratum after stratum

-- how many samples of strata below n have the label j
up_to : ℕ → List ℕ → List ℕ → ℕ → ℕ
up_to n [] labels j = 0
up_to n (s₀ ∷ ss) [] j = 0
up_to n (s₀ ∷ ss) (j₀ ∷ labels) j = cond (ltb s₀ n) (δ j j₀) 0 + up_to n ss labels j

up_to-none : (ss labels : List ℕ) (j : ℕ) → up_to 0 ss labels j ≡ 0
unfolding up_to
up_to-none [] labels j = refl
up_to-none (s₀ ∷ ss) [] j = refl
up_to-none (s₀ ∷ ss) (j₀ ∷ l) j = omega (arith, ap {B = ℕ} (λ (b : Bool). cond b (δ j j₀) 0) (le-ltb s₀ 0 (omega arith)), up_to-none ss l j)

-- a sample of a stratum below n + 1 is of one below n, or of n
one_more : (n s₀ j₀ j : ℕ) → cond (ltb s₀ (suc n)) (δ j j₀) 0 ≡ cond (ltb s₀ n) (δ j j₀) 0 + mark s₀ j₀ n j
one_more n s₀ j₀ j =
    let d = δ j j₀ in
    let at : (m : ℕ) (b : Bool) → ltb s₀ m ≡ b → cond (ltb s₀ m) d 0 ≡ cond b d 0 = λ m b e. ap (λ (t : Bool). cond t d 0) e in
    elim (dec_lt s₀ n) [
      | yes h ↦ omega (arith, at (suc n) true (lt-ltb s₀ (suc n) (omega arith)), at n true (lt-ltb s₀ n h), mark-stratum s₀ j₀ n j (λ e. omega arith))
      | no h ↦ elim (ℕ_discrete n s₀) [
        | yes e ↦ omega (arith, at (suc n) true (lt-ltb s₀ (suc n) (omega arith)), at n false (le-ltb s₀ n (omega arith)), mark-own n s₀ j₀ j e)
        | no f ↦ omega (arith, at (suc n) false (le-ltb s₀ (suc n) (omega arith)), at n false (le-ltb s₀ n (omega arith)), mark-stratum s₀ j₀ n j f)
      ]
    ]

up_to-more : (n : ℕ) (ss labels : List ℕ) (j : ℕ) → up_to (suc n) ss labels j ≡ up_to n ss labels j + tally ss labels n j
unfolding up_to tally
up_to-more n [] labels j = refl
up_to-more n (s₀ ∷ ss) [] j = refl
up_to-more n (s₀ ∷ ss) (j₀ ∷ l) j = omega (arith, one_more n s₀ j₀ j, up_to-more n ss l j)

up_to-all : (n : ℕ) (ss labels : List ℕ) (j : ℕ) → length labels ≡ length ss → Below n ss → up_to n ss labels j ≡ how_many j labels
unfolding up_to how_many count_if δ
up_to-all n [] [] j e h = refl
up_to-all n [] (j₀ ∷ l) j e h = absurd (omega arith)
up_to-all n (s₀ ∷ ss) [] j e h = absurd (omega arith)
up_to-all n (s₀ ∷ ss) (j₀ ∷ l) j e h =
    ap₂ ◌+◌ (ap (λ (b : Bool). cond b (cond (eqb j j₀) 1 0) 0) (lt-ltb s₀ n (h 0 (omega arith)))) (up_to-all n ss l j (omega arith) (λ i b. h (suc i) (suc-le-suc b)))

module _ (ss labels way : List ℕ) (same : (s j : ℕ) → tally ss way s j ≡ tally ss labels s j) where
  up_to-same : (n j : ℕ) → up_to n ss way j ≡ up_to n ss labels j
  up_to-same zero j = up_to-none ss way j ∙ sym (up_to-none ss labels j)
  up_to-same (suc n) j = omega (arith, up_to-more n ss way j, up_to-more n ss labels j, up_to-same n j, same n j)

  -- labels that keep their counts in every stratum keep them in the whole
  pub tally-keeps : (n : ℕ) → Below n ss → length labels ≡ length ss → length way ≡ length ss → (j : ℕ) → how_many j way ≡ how_many j labels
  tally-keeps n below fits fits' j = sym (up_to-all n ss way j fits' below) ∙ up_to-same n j ∙ up_to-all n ss labels j fits below

  -- and are no others
  pub tally-below : (g : ℕ) → Below g labels → length way ≡ length ss → Below g way
  tally-below g below fits i h =
      let own = tally-own ss way i (omega arith) h in
      let r = tally-some ss labels (get_or ss i 0) (get_or way i 0) (omega (arith, same (get_or ss i 0) (get_or way i 0))) in
      omega (arith, below r.0 r.1.in_labels, r.1.label)

-- ---- lists with as many of each number: a test passes as often in one as in the other

-- how many of xs below n pass q
passing : (ℕ → Bool) → ℕ → List ℕ → ℕ
passing q n xs = count_if (λ x. ltb x n && q x) xs

passing-none : (q : ℕ → Bool) (xs : List ℕ) → passing q 0 xs ≡ 0
unfolding passing count_if
passing-none q [] = refl
passing-none q (x ∷ xs) = omega (arith, ap {B = ℕ} (λ (b : Bool). cond (b && q x) 1 0) (le-ltb x 0 (omega arith)), passing-none q xs)

abbrev bit : Bool → ℕ
bit b = cond b 1 0

one-passing : (q : ℕ → Bool) (n x : ℕ) → bit (ltb x (suc n) && q x) ≡ bit (ltb x n && q x) + bit (q n) * δ n x
one-passing q n x =
    let at : (m : ℕ) (b : Bool) → ltb x m ≡ b → bit (ltb x m && q x) ≡ bit (b && q x) = λ m b e. ap (λ (t : Bool). bit (t && q x)) e in
    let none : (n ≡ x → ⊥) → bit (q n) * δ n x ≡ 0 = λ d. ap (λ (k : ℕ). bit (q n) * k) (δ-other n x d) ∙ mul-zero _ in
    let own : n ≡ x → bit (q n) * δ n x ≡ bit (q x) = λ e. ap₂ ◌*◌ (ap (λ (y : ℕ). bit (q y)) e) (δ-same n x e) ∙ mul-one _ in
    elim (dec_lt x n) [
      | yes h ↦ omega (arith, at (suc n) true (lt-ltb x (suc n) (omega arith)), at n true (lt-ltb x n h), none (λ e. omega arith))
      | no h ↦ elim (ℕ_discrete n x) [
        | yes e ↦ omega (arith, at (suc n) true (lt-ltb x (suc n) (omega arith)), at n false (le-ltb x n (omega arith)), own e)
        | no f ↦ omega (arith, at (suc n) false (le-ltb x (suc n) (omega arith)), at n false (le-ltb x n (omega arith)), none f)
      ]
    ]

passing-more : (q : ℕ → Bool) (n : ℕ) (xs : List ℕ) → passing q (suc n) xs ≡ passing q n xs + bit (q n) * how_many n xs
unfolding passing how_many count_if δ
passing-more q n [] = omega (arith, mul-zero (bit (q n)))
passing-more q n (x ∷ xs) = omega (arith, one-passing q n x, passing-more q n xs, mul-add (bit (q n)) (bit (eqb n x)) (count_if (eqb n) xs))

passing-all : (q : ℕ → Bool) (n : ℕ) (xs : List ℕ) → Below n xs → passing q n xs ≡ count_if q xs
unfolding passing count_if
passing-all q n [] h = refl
passing-all q n (x ∷ xs) h =
    ap₂ ◌+◌ (ap (λ (b : Bool). cond (b && q x) 1 0) (lt-ltb x n (h 0 (omega arith)))) (passing-all q n xs (λ i b. h (suc i) (suc-le-suc b)))

module _ (q : ℕ → Bool) (xs ys : List ℕ) (same : (j : ℕ) → how_many j ys ≡ how_many j xs) where
  passing-same : (n : ℕ) → passing q n ys ≡ passing q n xs
  passing-same zero = passing-none q ys ∙ sym (passing-none q xs)
  passing-same (suc n) = passing-more q n ys ∙ ap₂ (λ (a b : ℕ). a + bit (q n) * b) (passing-same n) (same n) ∙ sym (passing-more q n xs)

  pub count_same : (g : ℕ) → Below g xs → Below g ys → count_if q ys ≡ count_if q xs
  count_same g h h' = sym (passing-all q g ys h') ∙ passing-same g ∙ passing-all q g xs h
