-- Judged samples of the trade: cases (c) to (f), as far as they speak of the sampled test.
use Rattle.lists.proofs.Base.{◌≡◌, refl, [], ◌∷◌, ℕ, ◌≤◌, le-ltb, length}
use lib.Ieee.{add, sub, mul, div, neg, lt, le, ne, of_bits, of_int, odd, size}
use Rattle.float.specs.{Floats.f64, Floats.num, Floats.zero⁺, Order.larger}
use Rattle.square_root.specs.Root.{root}
use Rattle.lists.specs.Ranges.{up_from, range, table, rows, grid}
use Rattle.lists.specs.Filters.{filter, count_if, any, first_at, pairs, ordered_pairs}
use Rattle.lists.specs.{Numbers.how_many, Numbers.position, Numbers.insert_up, Numbers.upward, Numbers.members, Sums.sum_from, Rows.entry}
use Rattle.outcome.specs.{Outcome.passed, Refusals.first, Refusals.short}
use Rattle.lot.specs.Cases.{example, zeros}
use Rattle.lot.specs.Kept.{twice, kept, gathered, kept_labels, group_labels, groups, kept_count, group_count}
use Rattle.lot.specs.{Mirror.asymmetric, Mirror.nonzero_diagonal, Mirror.unmirrored, Lines.misfits, Lines.test_lines}
use Rattle.permanova_sums.specs.Squares.{square_at, weight_at, pair_term_at, weighted_square_at, pair_terms, weighted_squares, weights_of, pair_terms_of, weighted_squares_of}
use Rattle.permanova_sums.specs.PairSums.{row_sum, rows_sum, pair_sum}
use Rattle.permanova_location.specs.Location.{total, group_weight, group_within, within, f_ratio, pseudo_f}
use Rattle.permanova_dispersion.specs.Dispersion as dispersion
use Rattle.permanova_dispersion.specs.Dispersion.{inside, weighted_square_sum, value_of, value, values, distance_of}
use Rattle.permanova_dispersion.specs.Anova.{grand_mean, group_mean, group_means, squared, share, between, residual_at, residual, anova_f}
use Rattle.permanova_p_values.specs.declared.Statistic.TheVariants.{Unbounded}
use Rattle.permanova_statistics.specs.Statistics.{total_of, within_of, location_f, z_of, dispersion_of}
use Rattle.permanova_p_values.specs.{Hits.statistic, PValues.p_value}
use Rattle.std.specs.Prelude.{None}
use Rattle.permanova_sampling.specs.{Sampled.p_value_of, Sampled.location_pvalue, Sampled.dispersion_pvalue, Tested.tested}
use Rattle.permanova.specs.Call.{Slices, too_short, test_check}

-- (c) the example: total 68, within 4, F 32
pub case-c-total : total_of (example (0 ∷ 0 ∷ 1 ∷ 1 ∷ [])) ≡ num 68
unfolding add mul div neg of_bits of_int odd size total_of total rows_sum row_sum entry sum_from weights_of pair_terms_of pair_terms pair_term_at weight_at
    square_at grid rows table range up_from kept_count kept twice how_many count_if filter
case-c-total = refl

pub case-c-within : within_of (example (0 ∷ 0 ∷ 1 ∷ 1 ∷ [])) (groups (0 ∷ 0 ∷ 1 ∷ 1 ∷ [])) ≡ num 4
unfolding add mul div neg lt of_bits of_int odd size larger within_of within group_within group_weight pair_sum pairs members entry sum_from weights_of
    pair_terms_of pair_terms pair_term_at weight_at square_at grid rows table range up_from groups position first_at kept_count group_count group_labels
    kept_labels gathered kept twice how_many count_if filter upward insert_up
case-c-within = refl

pub case-c-F : location_f (example (0 ∷ 0 ∷ 1 ∷ 1 ∷ [])) (groups (0 ∷ 0 ∷ 1 ∷ 1 ∷ [])) ≡ num 32
unfolding add sub mul div neg lt of_bits of_int odd size larger location_f pseudo_f f_ratio total_of total rows_sum row_sum within_of within group_within
    group_weight pair_sum pairs members entry sum_from weights_of pair_terms_of pair_terms pair_term_at weight_at square_at grid rows table range up_from groups
    position first_at kept_count group_count group_labels kept_labels gathered kept twice how_many count_if filter upward insert_up
case-c-F = refl

-- (d) labels 0, 1, 0, 1 there: F 0.125
pub case-d : location_f (example (0 ∷ 1 ∷ 0 ∷ 1 ∷ [])) (groups (0 ∷ 1 ∷ 0 ∷ 1 ∷ [])) ≡ f64 0x3fc0_0000_0000_0000
unfolding add sub mul div neg lt of_bits of_int odd size larger location_f pseudo_f f_ratio total_of total rows_sum row_sum within_of within group_within
    group_weight pair_sum pairs members entry sum_from weights_of pair_terms_of pair_terms pair_term_at weight_at square_at grid rows table range up_from groups
    position first_at kept_count group_count group_labels kept_labels gathered kept twice how_many count_if filter upward insert_up
case-d = refl

-- (e) labels 0, 1, 1, 0: F 0
pub case-e : location_f (example (0 ∷ 1 ∷ 1 ∷ 0 ∷ [])) (groups (0 ∷ 1 ∷ 1 ∷ 0 ∷ [])) ≡ zero⁺
unfolding add sub mul div neg lt of_bits of_int odd size larger location_f pseudo_f f_ratio total_of total rows_sum row_sum within_of within group_within
    group_weight pair_sum pairs members entry sum_from weights_of pair_terms_of pair_terms pair_term_at weight_at square_at grid rows table range up_from groups
    position first_at kept_count group_count group_labels kept_labels gathered kept twice how_many count_if filter upward insert_up
case-e = refl

-- such a call passes, with slices of 4 entries and of 16 or more
pub example-passes : (n : ℕ) (s : Slices) → n ≤ 999999 → 4 ≤ length s.labels → 4 ≤ length s.counts → 4 ≤ length s.means →
    16 ≤ length s.pair_terms → 16 ≤ length s.weighted_squares → test_check (example (0 ∷ 0 ∷ 1 ∷ 1 ∷ [])) n s ≡ passed
unfolding test_check too_short short any first test_lines misfits unmirrored asymmetric nonzero_diagonal entry ne le of_bits of_int odd size
    group_count group_labels kept_labels gathered kept twice how_many count_if filter range up_from upward insert_up
example-passes n s h a b c d e = rw (le-ltb _ _ a, le-ltb _ _ b, le-ltb _ _ c, le-ltb _ _ d, le-ltb _ _ e, le-ltb _ _ h)

-- ---- (f) all distances 0: neither F is finite, and neither has a p, whatever the seed and however many shuffles

location-unbounded : statistic (location_f zeros (groups zeros.labels)) ≡ Unbounded
unfolding statistic add sub mul div neg lt of_bits of_int odd size larger location_f pseudo_f f_ratio total_of total rows_sum row_sum within_of within
    group_within group_weight pair_sum pairs members entry sum_from weights_of pair_terms_of pair_terms pair_term_at weight_at square_at grid rows table range
    up_from groups position first_at kept_count group_count group_labels kept_labels gathered kept twice how_many count_if filter upward insert_up
location-unbounded = refl

dispersion-unbounded : statistic (dispersion_of zeros (z_of zeros (groups zeros.labels)) (groups zeros.labels)) ≡ Unbounded
unfolding statistic dispersion_of anova_f residual residual_at between share squared group_means group_mean grand_mean f_ratio z_of dispersion.z_of distance_of
    root values value value_of weighted_square_sum inside ordered_pairs group_weight weighted_squares_of weighted_squares weighted_square_at add sub mul div neg
    lt of_bits of_int odd size larger members entry sum_from weights_of pair_terms_of pair_terms pair_term_at weight_at square_at grid rows table range up_from
    groups position first_at kept_count group_count group_labels kept_labels gathered kept twice how_many count_if filter upward insert_up
dispersion-unbounded = refl

pub case-f-location : (seed n : ℕ) → location_pvalue zeros seed n ≡ None
unfolding location_pvalue p_value_of p_value
case-f-location seed n = rw location-unbounded

pub case-f-dispersion : (seed n : ℕ) → dispersion_pvalue zeros seed n ≡ None
unfolding dispersion_pvalue p_value_of p_value
case-f-dispersion seed n = rw dispersion-unbounded

pub case-f : (seed n : ℕ) → ((tested zeros seed n).p ≡ None) × ((tested zeros seed n).disp_p ≡ None)
unfolding tested
case-f seed n = (case-f-location seed n, case-f-dispersion seed n)
