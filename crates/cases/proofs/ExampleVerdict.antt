-- What is found of the example's lot: no line of the table holds, and the verdict, its statistics and hits evaluated.
use Rattle.lists.proofs.Base.{◌≡◌, refl, sym, ap, ◌∙◌, Bool, true, false, true≢false, List, [], ◌∷◌, ℕ, ◌+◌, length, replicate}
use lib.Ieee.{Float, add, sub, mul, div, neg, lt, le, of_bits, of_int, odd, size}
use Rattle.float.specs.{Floats.zero⁺, Floats.1·0, Floats.f64, Order.magnitude, Order.larger, Tolerance.threshold}
use Rattle.square_root.specs.Root.{isqrt, root_of, root}
use Rattle.lists.specs.Ranges.{up_from, range, table, rows, grid}
use Rattle.lists.specs.Filters.{filter, count_if, any, first_at, pairs, ordered_pairs}
use Rattle.lists.specs.Numbers.{sumℕ, productℕ, factorial, how_many, position, insert_up, upward, members}
use Rattle.lists.specs.{Sums.sum_from, Rows.entry}
use Rattle.outcome.specs.Refusals.{first, ◌when◌}
use Rattle.outcome.specs.Outcome as outcome
use Rattle.outcome.specs.Outcome.{Outcome, Told, passed, answered, refused, and_then}
use Rattle.lot.specs.Kept.{twice, left_out, kept, gathered, kept_labels, group_labels, groups, kept_count, group_count, sizes}
use Rattle.lot.specs.Strata.{strata, informs, informative, informative_count, fraction}
use Rattle.lot.specs.Way.{δ, mark, tally, on_kept, relabelled}
use Rattle.permanova_sums.specs.Squares.{square_at, weight_at, pair_term_at, weighted_square_at, pair_terms, weighted_squares, weights_of, pair_terms_of, weighted_squares_of}
use Rattle.permanova_sums.specs.PairSums.{row_sum, rows_sum, pair_sum}
use Rattle.permanova_dispersion.specs.Anova.{grand_mean, group_mean, group_means, squared, share, between, residual_at, residual, anova_f}
use Rattle.permanova_location.specs.Location.{total, group_weight, group_within, within, f_ratio, pseudo_f, r_squared}
use Rattle.permanova_dispersion.specs.Dispersion as dispersion
use Rattle.permanova_dispersion.specs.Dispersion.{inside, weighted_square_sum, value_of, value, values, distance_of}
use Rattle.permanova_p_values.specs.declared.Statistic.TheVariants.{Finite, Unbounded}
use Rattle.permanova_statistics.specs.Statistics as statistics
use Rattle.permanova_statistics.specs.Statistics.{total_of, within_of, location_f, r_squared_of, z_of, dispersion_f}
use Rattle.permanova_p_values.specs.Hits.{statistic, hit}
use Rattle.permanova_statistics.specs.{Warnings.uninformed, Warnings.sizes_of, Warnings.warned, Summaries.summary_of}
use Rattle.ordination_coordinates.specs.Finish.{Coordinates}
use Rattle.lists.proofs.Counts.{count_no}
use Rattle.dapc_discriminant.specs.{Dapc.columns_used, Outputs.leaves}
use Rattle.dapc.specs.DapcLines.{misfits, bad_coordinate, shape_lines, group_lines, dapc_lines}
use Rattle.dapc.specs.Call.{call_by, dapc_call}
use Rattle.exhaustive_ways.specs.Ways.{spend, deal, ways_of, ways, size_factorials, label_factorials, way_count_of, way_count}
use Rattle.std.specs.Prelude.{None}
use Rattle.exhaustive_hits.specs.Assignments.{right_count, assignment}
use Rattle.exhaustive_hits.proofs.Given.{none_seen}
use Rattle.exhaustive_hits.specs.declared.judgement.Judgement.{Judgement}
use Rattle.exhaustive_hits.specs.Exhaustive as every
use Rattle.exhaustive_hits.specs.Exhaustive.{location_of, dispersion_of, assignment_of, hits, location_hits, dispersion_hits, assignment_hits, coordinates, exhaustive}
use Rattle.judge.specs.Judged.{lot_lines, judgement}
use Rattle.cases.proofs.{ExampleReading.distances, ExampleReading.lot, ExampleOrdination.answers, ExampleOrdination.ordinated}

-- F 32 with 2 hits, dispersion unbounded, smallest group under 5, no assignment; r2 is 64 / 68
unfoldable pub verdict : Judgement
verdict = record {
  summary = record { n = 4; n_groups = 2; r2 = f64 0x3fee_1e1e_1e1e_1e1e; informative_fraction = 1·0; warnings = 8 };
  ways = 6;
  location = record { statistic = Finite (f64 0x4040_0000_0000_0000); hits = 2 };
  dispersion = record { statistic = Unbounded; hits = 6 };
  assigned = record { statistic = None; hits = 0 };
}

-- ---- the groups, and the number of ways

abbrev observed : List ℕ
observed = groups lot.labels

four : kept_count lot.labels ≡ 4
unfolding lot kept_count kept twice how_many count_if filter range up_from
four = refl

two : group_count lot.labels ≡ 2
unfolding lot group_count group_labels kept_labels gathered kept twice how_many count_if filter range up_from upward insert_up
two = refl

six : way_count lot ≡ 6
unfolding lot way_count way_count_of size_factorials label_factorials productℕ factorial how_many count_if upward insert_up tally mark δ groups group_labels
    kept_labels gathered kept filter twice range up_from position first_at strata
six = refl

-- lines 3, 5 and 8
none-holds : first (lot_lines lot) ≡ passed
unfolding lot distances lot_lines first any le lt of_bits group_count group_labels kept_labels gathered kept twice how_many count_if filter range up_from
    upward insert_up way_count way_count_of size_factorials label_factorials productℕ factorial tally mark δ groups position first_at strata
none-holds = refl

-- ---- location: F 32 has 2 hits among the 6 ways

F-32 : location_of lot observed ≡ Finite (f64 0x4040_0000_0000_0000)
unfolding lot distances location_of statistic location_f pseudo_f f_ratio total_of total rows_sum row_sum within_of within group_within group_weight pair_sum
    pairs members entry sum_from weights_of pair_terms_of pair_terms pair_term_at weight_at square_at grid rows table range up_from groups position first_at
    kept_count group_count group_labels kept_labels gathered kept twice how_many count_if filter upward insert_up lt add sub mul div neg of_bits of_int odd
    size larger
F-32 = refl

r2-is : r_squared_of lot observed ≡ f64 0x3fee_1e1e_1e1e_1e1e
unfolding lot distances r_squared_of r_squared total_of total rows_sum row_sum within_of within group_within group_weight pair_sum pairs members entry sum_from
    weights_of pair_terms_of pair_terms pair_term_at weight_at square_at grid rows table range up_from groups position first_at kept_count group_count group_labels
    kept_labels gathered kept twice how_many count_if filter upward insert_up lt add sub mul div neg of_bits of_int odd size larger
r2-is = refl

location-hits : location_hits lot ≡ 2
unfolding lot distances location_hits hits location_of statistic hit threshold magnitude le lt add sub mul div neg of_bits of_int odd size larger
    location_f pseudo_f f_ratio total_of total rows_sum row_sum within_of within group_within group_weight pair_sum pairs members entry sum_from weights_of
    pair_terms_of pair_terms pair_term_at weight_at square_at grid rows table range up_from groups position first_at kept_count group_count group_labels
    kept_labels gathered kept twice how_many count_if filter upward insert_up ways ways_of deal spend tally mark δ strata
location-hits = refl

-- ---- dispersion: unbounded in every way

unbounded : dispersion_of lot observed ≡ Unbounded
unfolding lot distances dispersion_of statistics.dispersion_of dispersion_f statistic anova_f residual residual_at between share squared group_means
    group_mean grand_mean f_ratio z_of dispersion.z_of distance_of root root_of isqrt values value value_of weighted_square_sum inside ordered_pairs group_weight
    weighted_squares_of weighted_squares weighted_square_at lt add sub mul div neg of_bits of_int odd size larger members entry sum_from weights_of pair_terms_of
    pair_terms pair_term_at weight_at square_at grid rows table range up_from groups position first_at kept_count group_count group_labels kept_labels gathered
    kept twice how_many count_if filter upward insert_up
unbounded = refl

dispersion-hits : dispersion_hits lot ≡ 6
unfolding lot distances dispersion_hits hits dispersion_of statistics.dispersion_of dispersion_f statistic hit anova_f residual residual_at between share
    squared group_means group_mean grand_mean f_ratio z_of dispersion.z_of distance_of root root_of isqrt values value value_of weighted_square_sum inside
    ordered_pairs group_weight weighted_squares_of weighted_squares weighted_square_at lt add sub mul div neg of_bits of_int odd size larger members entry
    sum_from weights_of pair_terms_of pair_terms pair_term_at weight_at square_at grid rows table range up_from groups position first_at kept_count group_count
    group_labels kept_labels gathered kept twice how_many count_if filter upward insert_up ways ways_of deal spend tally mark δ strata
dispersion-hits = refl

-- ---- assignment: 4 samples in 2 groups leave 1 column, so `dapc` refuses, whatever the coordinates

withheld-by : (a b : Bool) (x : List Float) (labels : List ℕ) (out : List Float) (assigned : List ℕ)
    → right_count (call_by (first ((1 when a) ∷ (2 when false) ∷ (3 when b) ∷ (5 when false) ∷ (9 when true) ∷ [])) 4 4 x labels out assigned).answer ≡ None
unfolding right_count call_by leaves first and_then
withheld-by true b x labels out assigned = refl
withheld-by false true x labels out assigned = refl
withheld-by false false x labels out assigned = refl

withheld : (x : List Float) → assignment_of lot x observed ≡ None
unfolding lot assignment_of assignment dapc_call dapc_lines shape_lines group_lines columns_used relabelled on_kept groups group_labels kept_labels gathered
    kept twice how_many count_if filter range up_from upward insert_up position first_at kept_count group_count
withheld x = withheld-by (misfits 4 4 (length x) 4 20 4) (any bad_coordinate x) x (0 ∷ 0 ∷ 1 ∷ 1 ∷ []) (replicate 20 zero⁺) (replicate 4 0)

assignment-hits : (x : List Float) → assignment_hits lot x ≡ 0
unfolding assignment_hits hits
assignment-hits x = count_no _ (ways lot) (λ way. sym (none_seen (assignment_of lot x way) (withheld x)))

-- ---- the rest

fraction-1 : fraction lot ≡ 1·0
unfolding lot fraction informative_count informative informs members strata groups position first_at kept_count group_labels kept_labels gathered kept
    twice how_many count_if filter any range up_from upward insert_up div of_int of_bits odd size
fraction-1 = refl

warnings-8 : warned lot ≡ 8
unfolding lot distances warned sumℕ left_out uninformed sizes_of sizes statistics.some_negative dispersion.some_negative fraction informative_count
    informative informs values value value_of weighted_square_sum inside ordered_pairs group_weight weighted_squares_of weighted_squares weighted_square_at lt
    add sub mul div neg of_bits of_int odd size larger members entry sum_from weights_of pair_terms_of pair_terms pair_term_at weight_at square_at grid rows
    table range up_from strata groups position first_at kept_count group_count group_labels kept_labels gathered kept twice how_many count_if filter any
    upward insert_up
warnings-8 = refl

-- ---- all of it

found : (x : List Float) → every.judgement lot x ≡ verdict
unfolding verdict every.judgement summary_of
found x i = record {
  summary = record { n = four i; n_groups = two i; r2 = r2-is i; informative_fraction = fraction-1 i; warnings = ap (λ (w : ℕ). w + 0) warnings-8 i };
  ways = six i;
  location = record { statistic = F-32 i; hits = location-hits i };
  dispersion = record { statistic = unbounded i; hits = dispersion-hits i };
  assigned = record { statistic = withheld x i; hits = assignment-hits x i };
}

answered-by : (o : Outcome Coordinates) → answers o ≡ true → and_then o (λ c. answered (every.judgement lot c.coords)) ≡ answered verdict
unfolding and_then answers
answered-by (answered c) e = ap answered (found c.coords)
answered-by (refused r) e = absurd (true≢false (sym e))

pub judged : judgement lot ≡ answered verdict
unfolding judgement exhaustive
judged = ap (λ (c : Told). outcome.judged c (exhaustive lot)) none-holds ∙ answered-by (coordinates lot) ordinated
