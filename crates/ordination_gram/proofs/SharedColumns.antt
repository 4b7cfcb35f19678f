-- The columns that a set has, one more, and the bits that two rows share, word by word.
use Rattle.lists.proofs.Base.{◌≡◌, refl, sym, ap, ◌∙◌, Bool, true, false, ◌||◌, ◌⊎◌, inl, inr, List, ℕ, suc, ◌+◌, ◌*◌, ◌^◌, ◌<◌, ◌≤◌, arith, eq-eqb, ne_eqb}
use Rattle.lists.proofs.Base.{length, get_or, take, set, length-set, get_or-set_same, get_or-set_other, ext_get_or, take_all}
use Rattle.std.proofs.Common.{[], ◌∷◌, zip}
use Rattle.std.specs.List.{sum_by}
use Rattle.std.proofs.lemmas.List.Sums.{sum_by-cons}
use lib.Bits.{bit_and, and_lt}
use lib.Count.{ones, ones-le}
use Rattle.lists.specs.{Ranges.table, Numbers.contains}
use Rattle.lists.proofs.{Ranges.length-table, Ranges.get_or-table, Ranges.table-ext}
use Rattle.lists.proofs.{Truths.or-false, Truths.or-true, Truths.same_or_not, Tallies.contains-next}
use Rattle.ordination_gram.specs.inner.Bits.{common, present}

-- ---- the columns that a set has

module _ (m : ℕ) (s : List ℕ) (i : ℕ) (h : i < length s) where
  abbrev was : ℕ → Bool
  was c = contains c (take i s)

  abbrev is : ℕ → Bool
  is c = contains c (take (i + 1) s)

  -- another column is as it was
  other : (c : ℕ) → (c ≡ get_or s i 0 → ⊥) → was c ≡ is c
  other c d = sym (or-false (was c)) ∙ ap (λ (b : Bool). was c || b) (sym (ne_eqb c (get_or s i 0) d)) ∙ sym (contains-next c s i h)

  this : is (get_or s i 0) ≡ true
  this = contains-next (get_or s i 0) s i h ∙ ap (λ (b : Bool). was (get_or s i 0) || b) (eq-eqb (get_or s i 0) (get_or s i 0) refl) ∙ or-true (was (get_or s i 0))

  entry : (c : ℕ) → c < m → (c ≡ get_or s i 0) ⊎ (c ≡ get_or s i 0 → ⊥) → get_or (set (table m was) (get_or s i 0) true) c false ≡ is c
  entry c g (inl e) =
      let long = length-table was m in
      ap (λ (k : ℕ). get_or (set (table m was) (get_or s i 0) true) k false) e ∙ get_or-set_same (table m was) (get_or s i 0) true false (omega arith) ∙ sym this ∙ sym (ap is e)
  entry c g (inr d) = get_or-set_other (table m was) (get_or s i 0) c true false d ∙ get_or-table was m c false g ∙ other c d

  pub present-next : set (present m (take i s)) (get_or s i 0) true ≡ present m (take (i + 1) s)
  present-next =
      let long : length (set (table m was) (get_or s i 0) true) ≡ m = length-set (table m was) (get_or s i 0) true ∙ length-table was m in
      ext_get_or false (set (table m was) (get_or s i 0) true) (table m is) (long ∙ sym (length-table is m))
      (λ c g. let l : c < m = omega arith in entry c l (same_or_not c (get_or s i 0)) ∙ sym (get_or-table is m c false l))

  -- a hash with no column
  pub present-same : m ≤ get_or s i 0 → present m (take i s) ≡ present m (take (i + 1) s)
  present-same g = table-ext was is m (λ c l. other c (λ e. omega arith))

pub present-all : (m : ℕ) (s : List ℕ) (i : ℕ) → length s ≤ i → present m (take i s) ≡ present m s
present-all m s i h = ap (λ (l : List ℕ). present m l) (take_all i s h)

-- ---- the bits that two rows share, word by word

abbrev pub shared_bits : ℕ × ℕ → ℕ
shared_bits p = ones (bit_and p.0 p.1)

pub common-sum : (x y : List ℕ) → common x y ≡ sum_by shared_bits (zip x y)
unfolding common
common-sum [] y = refl
common-sum (a ∷ x) [] = refl
common-sum (a ∷ x) (b ∷ y) = ap (λ (n : ℕ). ones (bit_and a b) + n) (common-sum x y) ∙ sym (sum_by-cons shared_bits (a, b) (zip x y))

-- at most 64 a word
pub common-most : (x y : List ℕ) → ((i : ℕ) → get_or x i 0 < 2 ^ 64) → ((i : ℕ) → get_or y i 0 < 2 ^ 64) → common x y ≤ length x * 64
unfolding common
common-most [] y f g = omega arith
common-most (a ∷ x) [] f g = omega arith
common-most (a ∷ x) (b ∷ y) f g =
    omega (arith, ones-le 64 (bit_and a b) (and_lt 64 a b (f 0) (g 0)), common-most x y (λ i. f (suc i)) (λ i. g (suc i)))
