-- Distances enter the statistics by their squares alone: a lot with other distances and the same squares has the same of every way, and the same summary.
use Rattle.lists.proofs.Base.{◌≡◌, not, ◌&&◌, List, ℕ, ◌+◌, eqb, ltb, Float, lt}
use Rattle.float.specs.Floats.{0·5}
use Rattle.lists.specs.Filters.{any}
use Rattle.lot.specs.{Lot.Lot, Kept.groups, Kept.kept_count, Kept.group_count, Kept.left_out, Mirror.with_distances}
use Rattle.lot.proofs.Transposed.{SameSquares}
use Rattle.lot.specs.Strata.{held_strata, strata, informative_count, fraction}
use Rattle.permanova_sums.specs.Squares.{weights_of}
use Rattle.permanova_sums.proofs.SameSquares.{same-terms, same-weighted}
use Rattle.permanova_location.specs.Location as location
use Rattle.permanova_dispersion.specs.Dispersion as dispersion
use Rattle.permanova_p_values.specs.WarningBits.{warning_bits}
use Rattle.permanova_statistics.specs.Statistics.{total_of, within_of, location_f, r_squared_of, z_of, some_negative, dispersion_of, dispersion_f}
use Rattle.permanova_statistics.specs.{Warnings.uninformed, Warnings.sizes_of, Warnings.warned, Summaries.summary_of}

module _ (lot : Lot) (e : List Float) (same : SameSquares e lot.distances) where
  same_total : total_of (with_distances lot e) ≡ total_of lot
  unfolding total_of weights_of
  same_total = λ i. location.total (same-terms lot e same i) (weights_of lot) (kept_count lot.labels)

  same-within : (way : List ℕ) → within_of (with_distances lot e) way ≡ within_of lot way
  unfolding within_of weights_of
  same-within way = λ i. location.within (same-terms lot e same i) (weights_of lot) way (kept_count lot.labels) (group_count lot.labels)

  pub same-location : location_f (with_distances lot e) ≡ location_f lot
  unfolding location_f
  same-location = λ i way. location.pseudo_f (same_total i) (same-within way i) (kept_count lot.labels) (group_count lot.labels)

  pub same-z : z_of (with_distances lot e) ≡ z_of lot
  unfolding z_of weights_of
  same-z = λ i way. dispersion.z_of (same-weighted lot e same i) (same-terms lot e same i) (weights_of lot) way (kept_count lot.labels)

  pub same-dispersion : dispersion_f (with_distances lot e) ≡ dispersion_f lot
  unfolding dispersion_f dispersion_of
  same-dispersion = λ i way. dispersion_of lot (same-z i way) way

  same-negative : (way : List ℕ) → some_negative (with_distances lot e) way ≡ some_negative lot way
  unfolding some_negative weights_of
  same-negative way = λ i. dispersion.some_negative (same-weighted lot e same i) (same-terms lot e same i) (weights_of lot) way (kept_count lot.labels)

  same-warned : warned (with_distances lot e) ≡ warned lot
  unfolding warned uninformed sizes_of fraction informative_count strata held_strata
  same-warned = λ i. warning_bits (left_out lot.labels) (uninformed lot) (lt (fraction lot) 0·5 && not (eqb (informative_count lot) 0))
      (any (λ c. ltb c 5) (sizes_of lot)) (same-negative (groups lot.labels) i)

  pub same-summary : (more : ℕ) → summary_of (with_distances lot e) more ≡ summary_of lot more
  unfolding summary_of r_squared_of fraction informative_count strata held_strata
  same-summary more = λ i. record {
    n = kept_count lot.labels;
    n_groups = group_count lot.labels;
    r2 = location.r_squared (same_total i) (same-within (groups lot.labels) i);
    informative_fraction = fraction lot;
    warnings = same-warned i + more;
  }
