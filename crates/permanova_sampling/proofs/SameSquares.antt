-- Distances enter the answer by their squares alone: a lot with other distances and the same squares is answered the same.
use Rattle.lists.proofs.Base.{◌≡◌, List, ℕ, Float}
use Rattle.lot.specs.{Lot.Lot, Kept.groups, Mirror.with_distances}
use Rattle.lot.specs.Strata.{held_strata, strata, strata_count, informative_count}
use Rattle.lot.proofs.Transposed.{SameSquares}
use Rattle.permanova_p_values.specs.Together.{together}
use Rattle.permanova_statistics.specs.{Statistics.dispersion_of, Warnings.uninformed, Warnings.sizes_of}
use Rattle.permanova_statistics.proofs.SameSquares.{same-location, same-z, same-dispersion, same-summary}
use Rattle.permanova_sampling.specs.{Sampled.parts_of, Sampled.p_value_of, Sampled.location_pvalue, Sampled.dispersion_pvalue, Tested.tested}

module _ (lot : Lot) (e : List Float) (same : SameSquares e lot.distances) (seed n : ℕ) where
  same-p : location_pvalue (with_distances lot e) seed n ≡ location_pvalue lot seed n
  unfolding location_pvalue p_value_of parts_of uninformed informative_count strata strata_count held_strata
  same-p = λ i. p_value_of lot (same-location lot e same i) seed n

  same-q : dispersion_pvalue (with_distances lot e) seed n ≡ dispersion_pvalue lot seed n
  unfolding dispersion_pvalue p_value_of parts_of uninformed informative_count strata strata_count held_strata dispersion_of
  same-q = rw (same-z lot e same)

  pub same-tested : tested (with_distances lot e) seed n ≡ tested lot seed n
  unfolding tested sizes_of
  same-tested = λ i. record {
    summary = same-summary lot e same (together (sizes_of lot) (same-p i) (same-q i)) i;
    f = same-location lot e same i (groups lot.labels);
    p = same-p i;
    disp_f = same-dispersion lot e same i (groups lot.labels);
    disp_p = same-q i;
    strata_used = lot.stratified;
    weighted = lot.weighted;
  }
