-- Strata that are not given are not read, and neither are weights: the same call of `test`, whatever stands there.
use Rattle.lists.proofs.Base.{◌≡◌, refl, Bool, true, false, List, ℕ, Float}
use Rattle.lot.specs.{Lot.Lot, Lot.lot_of, Strata.held_strata, Strata.strata, Strata.strata_count, Strata.informative_count, Strata.fraction}
use Rattle.lot.specs.Lines.{misfits, test_lines}
use Rattle.permanova_sums.specs.Squares.{weight_at, weights_of, pair_terms_of, weighted_squares_of}
use Rattle.permanova_statistics.specs.Statistics.{total_of, within_of, location_f, z_of, dispersion_f, r_squared_of, some_negative}
use Rattle.permanova_statistics.specs.Statistics as statistics
use Rattle.permanova_statistics.specs.{Warnings.uninformed, Warnings.warned, Warnings.sizes_of, Summaries.summary_of}
use Rattle.exhaustive_hits.proofs.Unread.{read}
use Rattle.permanova.specs.Call.{Slices, test_check, leaves, test_call}
use Rattle.permanova_sampling.specs.{Tested.tested, Sampled.parts_of, Sampled.p_value_of, Sampled.location_pvalue, Sampled.dispersion_pvalue}

module _ (n : ℕ) (distances : List Float) (labels strata : List ℕ) (weights : List Float) (seed n_perm : ℕ) (s : Slices) where
  abbrev given : Bool → Bool → Lot
  given b c = lot_of n distances labels b strata c weights

  call-given : (b c : Bool) → test_call (read (given b c)) seed n_perm s ≡ test_call (given b c) seed n_perm s
  unfolding test_call test_check leaves test_lines misfits tested parts_of p_value_of location_pvalue dispersion_pvalue location_f dispersion_f total_of within_of z_of some_negative statistics.dispersion_of weights_of weight_at pair_terms_of
      weighted_squares_of strata held_strata strata_count informative_count fraction summary_of r_squared_of sizes_of uninformed warned
  call-given true true = refl
  call-given true false = refl
  call-given false true = refl
  call-given false false = refl

pub test-unread : (lot : Lot) (seed n_perm : ℕ) (s : Slices) → test_call (read lot) seed n_perm s ≡ test_call lot seed n_perm s
test-unread lot seed n_perm s = call-given lot.n lot.distances lot.labels lot.strata lot.weights seed n_perm s lot.stratified lot.weighted
