-- The transposed matrix makes the same call of `test`, be it accepted or refused: the same answer, and the same in everything lent.
use Rattle.lists.proofs.Base.{◌≡◌, refl, ap, ◌∙◌, List, ℕ, ◌*◌, length, Float}
use Rattle.float.specs.Floats.{zero⁺}
use Rattle.lists.specs.Writes.{over, cleared}
use Rattle.outcome.specs.Outcome.{Told, passed, answered, refused, judged}
use Rattle.outcome.specs.{Refusals.first, Slices.output, Slices.work}
use Rattle.lot.specs.{Lot.Lot, Kept.group_labels, Kept.groups, Kept.kept_count, Kept.group_count, Mirror.with_distances, Mirror.transposed_lot}
use Rattle.lot.proofs.Transposed.{SameSquares, lines-transposed, accepted-squares}
use Rattle.permanova_dispersion.specs.Anova.{mean_z}
use Rattle.permanova_statistics.specs.Warnings.{sizes_of}
use Rattle.permanova_statistics.proofs.SameSquares.{same-z}
use Rattle.permanova_sampling.specs.Tested.{tested}
use Rattle.permanova_sampling.proofs.SameSquares.{same-tested}
use Rattle.permanova.specs.Call.{Slices, test_check, leaves, test_call}

-- by what the table says of both: an accepted lot with the same squares is answered the same, and a refusal reads no distance
same-leaves : (lot : Lot) (e : List Float) (seed k : ℕ) (s : Slices) (t : Told) → (t ≡ passed → SameSquares e lot.distances)
    → leaves (with_distances lot e) (judged t (answered (tested (with_distances lot e) seed k))) s ≡ leaves lot (judged t (answered (tested lot seed k))) s
unfolding leaves output work sizes_of
same-leaves lot e seed k s (answered _) same = λ i.
    let observed = groups lot.labels in
    let m = kept_count lot.labels in
    let g = group_count lot.labels in
    record {
      answer = answered (same-tested lot e (same refl) seed k i);
      after = record {
        labels = over (group_labels lot.labels) s.labels;
        counts = over (sizes_of lot) s.counts;
        means = over (mean_z (same-z lot e (same refl) i observed) observed m g) s.means;
        pair_terms = cleared zero⁺ s.pair_terms;
        weighted_squares = cleared zero⁺ s.weighted_squares;
      };
    }
same-leaves lot e seed k s (refused r) same = refl

module _ (lot : Lot) (seed k : ℕ) (s : Slices) (long : length lot.distances ≡ lot.n * lot.n) where
  same_check : test_check (transposed_lot lot) k s ≡ test_check lot k s
  unfolding test_check
  same_check = ap first (lines-transposed lot long _ _)

  check-squares : test_check lot k s ≡ passed → SameSquares (transposed_lot lot).distances lot.distances
  unfolding test_check
  check-squares e = accepted-squares lot long _ _ e

  pub test-transposed : test_call (transposed_lot lot) seed k s ≡ test_call lot seed k s
  unfolding test_call
  test-transposed = ap (λ (t : Told). leaves (transposed_lot lot) (judged t (answered (tested (transposed_lot lot) seed k))) s) same_check
      ∙ same-leaves lot (transposed_lot lot).distances seed k s (test_check lot k s) check-squares
