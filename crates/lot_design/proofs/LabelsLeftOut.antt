-- Labels are left out where fewer samples are kept than have a label.
use Rattle.lists.proofs.Base.{◌≡◌, refl, sym, ap, ◌∙◌, Bool, not, ◌&&◌, cond, ℕ, zero, suc, ◌+◌, ◌<◌, ◌≤◌, arith}
use Rattle.lists.proofs.Base.{ℕ_discrete, eq-eqb, ne_eqb, lt-ltb, le-ltb, le-leb, lt-leb, eqb, ltb, length}
use mathlib.Core.List.Memᴰ.{head as here}
use mathlib.Core.List.Memᴰ.{tail as there}
use mathlib.Core.List.{List, [], ◌∷◌, Memᴰ as Member}
use Rattle.lists.specs.{Filters.count_if, Numbers.how_many}
use Rattle.lists.proofs.{Counts.any-count, Filters.length-filter, Members.member-how_many}
use Rattle.limits.specs.Limits.{none}
use Rattle.lot.specs.Kept.{twice, left_out, kept_labels, kept_count}
use Rattle.lot.proofs.{Places.kept-labels, Samples.length-kept_labels}

some_more : (k n s : ℕ) {all : ℕ} → all ≡ n + k + s → ltb 0 s ≡ ltb (k + n) all
some_more k n zero {all} e = le-ltb 0 0 (omega arith) ∙ sym (le-ltb (k + n) all (omega arith))
some_more k n (suc s) {all} e = lt-ltb 0 (suc s) (omega arith) ∙ sym (lt-ltb (k + n) all (omega arith))

module _ (labels : List ℕ) where
  -- one sample holds the label l
  abbrev single : ℕ → Bool
  single l = not (eqb l none) && eqb (how_many l labels) 1

  abbrev ones : ℕ → ℕ
  ones l = cond (eqb none l) 1 0 + cond (twice labels l) 1 0 + cond (single l) 1 0

  -- what a sample holds is none, or a label that two samples have, or one that it has alone
  one_of_three : (l : ℕ) → 0 < how_many l labels → 1 ≡ ones l
  unfolding twice
  one_of_three l some = elim (ℕ_discrete l none) [
    | yes e ↦ rw (eq-eqb l none e, eq-eqb none l (sym e))
    | no e ↦ elim (ℕ_discrete (how_many l labels) 1) [
      | yes f ↦ rw (ne_eqb l none e, ne_eqb none l (λ q. e (sym q)), eq-eqb _ 1 f, lt-leb 2 (how_many l labels) (omega arith))
      | no f ↦ rw (ne_eqb l none e, ne_eqb none l (λ q. e (sym q)), ne_eqb _ 1 f, le-leb 2 (how_many l labels) (omega arith))
    ]
  ]

  all_three : (xs : List ℕ) → ((l : ℕ) → Member l xs → 0 < how_many l labels) → length xs ≡ count_if (eqb none) xs + count_if (twice labels) xs + count_if single xs
  unfolding count_if
  all_three [] some = refl
  all_three (x ∷ xs) some = omega (arith, one_of_three x (some x (here refl)), all_three xs (λ l m. some l (there m)))

  -- m samples are kept, and k have no label
  module _ {m k : ℕ} (kept : m ≡ kept_count labels) (unlabelled : k ≡ how_many none labels) where
    in_all : length labels ≡ k + m + count_if single labels
    unfolding kept_count how_many
    in_all =
        let counted : length (kept_labels labels) ≡ count_if (twice labels) labels = ap length (kept-labels labels) ∙ length-filter (twice labels) labels in
        omega (arith, kept, unlabelled, counted, length-kept_labels labels, all_three labels (λ l h. member-how_many l labels h))

    pub apart-few : m + k ≤ length labels
    apart-few = omega (arith, in_all)

    pub left-out-few : ltb (m + k) (length labels) ≡ left_out labels
    unfolding left_out
    left-out-few = sym (any-count single labels ∙ some_more m k (count_if single labels) in_all)
