-- A way handed in as the observed one: the ways, M and every way's statistics are the same.
use Rattle.lists.proofs.Base.{◌≡◌, ap, Bool, List, map, ℕ, length, Float}
use Rattle.lists.specs.Filters.{count_if}
use Rattle.lists.specs.inner.Numbers.{Below}
use Rattle.outcome.specs.Outcome.{Outcome, answered, and_then}
use Rattle.lot.specs.{Lot.Lot, Kept.groups, Kept.kept_count, Kept.group_count, Way.IsWay, Way.relabelled}
use Rattle.lot.proofs.{Samples.length-groups, GroupsAndStrata.groups-below, GroupsAndStrata.length-strata, Relabelled.same-lot}
use Rattle.permanova_sums.specs.Squares.{weight_at, pair_terms, weighted_squares, weights_of, pair_terms_of, weighted_squares_of}
use Rattle.permanova_location.specs.Location as location
use Rattle.permanova_dispersion.specs.Dispersion as dispersion
use Rattle.permanova_dispersion.specs.Anova as anova
use Rattle.permanova_p_values.specs.Hits.{statistic}
use Rattle.permanova_statistics.specs.Statistics.{total_of, within_of, location_f, z_of, dispersion_f}
use Rattle.permanova_statistics.specs.Statistics as statistics
use Rattle.ordination_coordinates.specs.Finish.{Coordinates}
use Rattle.exhaustive_ways.specs.{Ways.ways, Ways.way_count, Every.Every}
use Rattle.exhaustive_ways.proofs.Every as every
use Rattle.exhaustive_hits.specs.Assignments.{assignment, columns_of}
use Rattle.exhaustive_hits.specs.Exhaustive.{location_of, dispersion_of, assignment_of, coordinates, judgement, exhaustive}
use Rattle.exhaustive_hits.proofs.WaysHandedIn.{handed-again}

-- ---- the ways of a lot

module _ (lot : Lot) where
  grouped : length (groups lot.labels) ≡ kept_count lot.labels
  unfolding kept_count
  grouped = length-groups lot.labels

  below : Below (group_count lot.labels) (groups lot.labels)
  unfolding group_count
  below = groups-below lot.labels

  pub every_way : Every lot (ways lot)
  every_way = every.every lot grouped (length-strata lot) below

  -- in whatever order they are walked, as many pass a test
  pub every-order : (walk : List (List ℕ)) → Every lot walk → (p : List ℕ → Bool) → count_if p walk ≡ count_if p (ways lot)
  every-order = every.every-order lot grouped (length-strata lot) below

module _ (lot : Lot) (way : List ℕ) (is-way : IsWay lot way) where
  pub same-ways : ways (relabelled lot way) ≡ ways lot
  same-ways = every.relabelled-ways lot (grouped lot) (length-strata lot) (below lot) way is-way (same-lot lot way is-way)

  pub same_count : way_count (relabelled lot way) ≡ way_count lot
  same_count = every.relabelled-count lot (grouped lot) (length-strata lot) (below lot) way is-way (same-lot lot way is-way)

  -- ---- what the statistics are made of

  same-m : kept_count (relabelled lot way).labels ≡ kept_count lot.labels
  unfolding kept_count
  same-m = ap length (same-lot lot way is-way).same_kept

  same-g : group_count (relabelled lot way).labels ≡ group_count lot.labels
  unfolding group_count
  same-g = ap length (same-lot lot way is-way).same_names

  same-weights : weights_of (relabelled lot way) ≡ weights_of lot
  unfolding weights_of relabelled
  same-weights = ap (map (weight_at lot.weighted lot.weights)) (same-lot lot way is-way).same_kept

  same-terms : pair_terms_of (relabelled lot way) ≡ pair_terms_of lot
  unfolding pair_terms_of relabelled
  same-terms = λ i. pair_terms lot.distances lot.n ((same-lot lot way is-way).same_kept i) (same-weights i) (same-m i)

  same-pulls : weighted_squares_of (relabelled lot way) ≡ weighted_squares_of lot
  unfolding weighted_squares_of relabelled
  same-pulls = λ i. weighted_squares lot.distances lot.n ((same-lot lot way is-way).same_kept i) (same-weights i) (same-m i)

  -- ---- the statistics of any way v

  pub same-location : (v : List ℕ) → location_of (relabelled lot way) v ≡ location_of lot v
  unfolding location_of location_f total_of within_of
  same-location v = λ i. statistic (location.pseudo_f (location.total (same-terms i) (same-weights i) (same-m i))
      (location.within (same-terms i) (same-weights i) v (same-m i) (same-g i)) (same-m i) (same-g i))

  pub same-dispersion : (v : List ℕ) → dispersion_of (relabelled lot way) v ≡ dispersion_of lot v
  unfolding dispersion_of dispersion_f z_of statistics.dispersion_of
  same-dispersion v = λ i. statistic (anova.anova_f (dispersion.z_of (same-pulls i) (same-terms i) (same-weights i) v (same-m i)) v (same-m i) (same-g i))

  pub same-assignment : (coords : List Float) (v : List ℕ) → IsWay lot v → assignment_of (relabelled lot way) coords v ≡ assignment_of lot coords v
  unfolding assignment_of relabelled
  same-assignment coords v is-v = ap (assignment lot.n (columns_of lot.n) coords) (handed-again lot way is-way v is-v)

  -- `pcoa` sees no label
  pub same-exhaustive : (c : Coordinates) → coordinates lot ≡ answered c → exhaustive (relabelled lot way) ≡ answered (judgement (relabelled lot way) c.coords)
  unfolding exhaustive coordinates relabelled and_then
  same-exhaustive c e = ap (λ (o : Outcome Coordinates). and_then o (λ c. answered (judgement (relabelled lot way) c.coords))) e
