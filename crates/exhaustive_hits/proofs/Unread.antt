-- Strata that are not given are not read, and neither are weights: the same call, whatever stands there.
use Rattle.lists.proofs.Base.{◌≡◌, refl, Bool, true, false, cond, List, [], ℕ, Float}
use Rattle.lot.specs.{Lot.Lot, Lot.lot_of, Strata.held_strata, Strata.strata, Strata.strata_count, Strata.informative_count, Strata.fraction, Way.relabelled}
use Rattle.lot.specs.Lines.{misfits, test_lines}
use Rattle.permanova_sums.specs.Squares.{weight_at, weights_of, pair_terms_of, weighted_squares_of}
use Rattle.permanova_statistics.specs.Statistics.{total_of, within_of, location_f, z_of, dispersion_f, r_squared_of}
use Rattle.permanova_statistics.specs.Statistics as statistics
use Rattle.permanova_statistics.specs.{Warnings.uninformed, Warnings.warned, Warnings.sizes_of, Summaries.summary_of}
use Rattle.exhaustive_ways.specs.Ways.{ways, way_count}
use Rattle.exhaustive_hits.specs.Exhaustive.{location_of, dispersion_of, assignment_of, location_hits, dispersion_hits, assignment_hits, judgement, coordinates, exhaustive}
use Rattle.exhaustive_hits.specs.Call.{Slices, exhaustive_lines, call_by, outcome_of, exhaustive_call}

-- the lot with nothing where nothing is given
abbrev pub read : Lot → Lot
read lot = lot_of lot.n lot.distances lot.labels lot.stratified (cond lot.stratified lot.strata []) lot.weighted (cond lot.weighted lot.weights [])

module _ (n : ℕ) (distances : List Float) (labels strata : List ℕ) (weights : List Float) where
  abbrev given : Bool → Bool → Lot
  given b c = lot_of n distances labels b strata c weights

  exhaustive-by : (b c : Bool) → exhaustive (read (given b c)) ≡ exhaustive (given b c)
  unfolding exhaustive coordinates judgement location_of dispersion_of assignment_of location_hits dispersion_hits assignment_hits location_f dispersion_f total_of within_of
      z_of statistics.dispersion_of statistics.some_negative weights_of weight_at pair_terms_of weighted_squares_of ways way_count strata held_strata strata_count informative_count
      fraction relabelled summary_of r_squared_of sizes_of uninformed warned
  exhaustive-by true true = refl
  exhaustive-by true false = refl
  exhaustive-by false true = refl
  exhaustive-by false false = refl

  call-given : (s : Slices) (b c : Bool) → exhaustive_call (read (given b c)) s ≡ exhaustive_call (given b c) s
  unfolding exhaustive_call outcome_of exhaustive_lines call_by test_lines misfits exhaustive coordinates judgement location_of dispersion_of assignment_of location_hits dispersion_hits assignment_hits location_f dispersion_f total_of within_of
      z_of statistics.dispersion_of statistics.some_negative weights_of weight_at pair_terms_of weighted_squares_of ways way_count strata held_strata strata_count informative_count
      fraction relabelled summary_of r_squared_of sizes_of uninformed warned
  call-given s true true = refl
  call-given s true false = refl
  call-given s false true = refl
  call-given s false false = refl

pub exhaustive-unread : (lot : Lot) → exhaustive (read lot) ≡ exhaustive lot
exhaustive-unread lot = exhaustive-by lot.n lot.distances lot.labels lot.strata lot.weights lot.stratified lot.weighted

pub call-unread : (lot : Lot) (s : Slices) → exhaustive_call (read lot) s ≡ exhaustive_call lot s
call-unread lot s = call-given lot.n lot.distances lot.labels lot.strata lot.weights s lot.stratified lot.weighted
