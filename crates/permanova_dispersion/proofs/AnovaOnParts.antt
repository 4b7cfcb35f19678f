-- The ANOVA worked out from the parts of a list of members.
use Rattle.lists.proofs.Base.{◌≡◌, ap, ◌∙◌, List, ℕ, ◌<◌, arith, get_or, take, Float, nan}
use Rattle.float.specs.Floats.{zero⁻}
use Rattle.lists.specs.{Ranges.table, Numbers.members, Sums.sum_from, Writes.over}
use Rattle.lists.proofs.{Ranges.table-ext, Ranges.length-table, Ranges.get_or-table, Writes.get_d_over, Writes.take-over}
use Rattle.grouping.specs.inner.Parts.{part, Grouped}
use Rattle.grouping.proofs.SortedParts.{on-members}
use Rattle.permanova_sums.specs.PairSums.{at}
use Rattle.permanova_dispersion.specs.Anova.{grand_mean, group_mean, group_means, share, between}

-- entry k of a list to the front of which a rule was written for g groups
pub written : (f : ℕ → Float) (g k : ℕ) (old : List Float) {l : List Float} → l ≡ over (table g f) old → k < g → at l k ≡ f k
written f g k old e h =
    let len = length-table f g in ap (λ (l : List Float). get_or l k nan) e ∙ get_d_over (table g f) old k nan (omega arith) ∙ get_or-table f g k nan h

module _ (lab : List ℕ) (m g : ℕ) (next mem : List ℕ) (s : Grouped lab m g next mem) where
  module _ (z means₀ means : List Float) (are : means ≡ over (table g (λ k. group_mean z (part next mem k))) means₀) where
    pub means-are : take g means ≡ group_means z lab m g
    unfolding group_means
    means-are =
        ap (take g) are ∙ take-over (table g (λ k. group_mean z (part next mem k))) means₀ g (length-table (λ k. group_mean z (part next mem k)) g)
        ∙ on-members lab m g next mem s (λ k. group_mean z)

    pub between_is : sum_from zero⁻ (table g (λ k. share (part next mem k) (at means k) (grand_mean z m))) ≡ between z (group_means z lab m g) lab m g
    unfolding between group_means
    between_is = ap (sum_from zero⁻) (table-ext (λ k. share (part next mem k) (at means k) (grand_mean z m)) (λ k. share (members lab m k) (at (group_means z lab m g) k) (grand_mean z m)) g one)
      where
        one : (k : ℕ) → k < g → share (part next mem k) (at means k) (grand_mean z m) ≡ share (members lab m k) (at (group_means z lab m g) k) (grand_mean z m)
        one k h =
            let there : at means k ≡ group_mean z (part next mem k) = written (λ k. group_mean z (part next mem k)) g k means₀ are h in
            let here : at (group_means z lab m g) k ≡ group_mean z (members lab m k) = get_or-table (λ j. group_mean z (members lab m j)) g k nan h in
            rw (there, here, s.are k h)
