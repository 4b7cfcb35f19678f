-- A group's part of within, from its pair sum; a sum over groups, with one more and with two more.
use Rattle.lists.proofs.Base.{◌≡◌, refl, sym, ap, ◌∙◌, List, [], ◌∷◌, ℕ, ◌+◌, ◌*◌, arith, Float}
use Rattle.float.specs.{Floats.◌⊕◌, Floats.◌⊘◌, Floats.zero⁻, Floats.smallest_normal, Order.larger}
use Rattle.lists.specs.{Ranges.up_from, Ranges.table, Sums.sum_from}
use Rattle.lists.proofs.{Ranges.table-last, Sums.sum-append}
use Rattle.grouping.specs.inner.Parts.{part, Grouped}
use Rattle.grouping.proofs.SortedParts.{on-members}
use Rattle.permanova_sums.specs.PairSums.{pair_sum}
use Rattle.permanova_location.specs.Location.{group_weight, group_within, within}

pub group-is : (t w : List Float) (m : ℕ) (mem : List ℕ) {s r : Float} → s ≡ pair_sum t m mem → r ≡ s ⊘ larger (group_weight w mem) smallest_normal → r ≡ group_within t w m mem
unfolding group_within
group-is t w m mem e h = rw e at h

module _ (z : Float) (f : ℕ → Float) where
  pub table_none : z ≡ sum_from z (table 0 f)
  unfolding sum_from table up_from
  table_none = refl

  pub table-next : (n : ℕ) {s x r : Float} → s ≡ sum_from z (table n f) → x ≡ f n → r ≡ s ⊕ x → r ≡ sum_from z (table (n + 1) f)
  unfolding sum_from
  table-next n {s} e g h = h ∙ ap (λ (y : Float). s ⊕ y) g ∙ ap (λ (y : Float). y ⊕ f n) e ∙ sym (sum-append z (table n f) (f n ∷ []))
      ∙ ap (sum_from z) (sym (table-last f n))

  pub table_same : (n k : ℕ) {s : Float} → n ≡ k → s ≡ sum_from z (table n f) → s ≡ sum_from z (table k f)
  table_same n k same e = e ∙ ap (λ (i : ℕ). sum_from z (table i f)) same

  pub table-two : (j : ℕ) {s x y r : Float} → s ≡ sum_from z (table (2 * j) f) → x ≡ f (2 * j) → y ≡ f (2 * j + 1) → r ≡ (s ⊕ x) ⊕ y
      → r ≡ sum_from z (table (2 * (j + 1)) f)
  table-two j e g h k = table_same (2 * j + 1 + 1) (2 * (j + 1)) (omega arith) (table-next (2 * j + 1) (table-next (2 * j) e g refl) h k)

-- the sum over the parts is within, of labels whose groups they are
pub within-is : (t w : List Float) (lab : List ℕ) (m g : ℕ) (starts mem : List ℕ) {r : Float} → Grouped lab m g starts mem
    → r ≡ sum_from zero⁻ (table g (λ k. group_within t w m (part starts mem k))) → r ≡ within t w lab m g
unfolding within
within-is t w lab m g starts mem grouped e = e ∙ ap (sum_from zero⁻) (on-members lab m g starts mem grouped (λ k. group_within t w m))
