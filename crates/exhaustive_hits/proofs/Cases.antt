-- Judged samples of the trade: cases (d), (e), (f), (g) and (i), as far as they speak of every way.
use Rattle.lists.proofs.Base.{◌≡◌, refl, false, List, [], ◌∷◌, ℕ, ◌+◌, ◌*◌, le-ltb, length}
use lib.Ieee.{Float, add, sub, mul, div, neg, lt, le, of_bits, of_int, odd, size}
use Rattle.float.specs.{Order.magnitude, Order.larger, Tolerance.threshold}
use Rattle.square_root.specs.Root.{root}
use Rattle.lists.specs.Ranges.{up_from, range, table, rows, grid}
use Rattle.lists.specs.Filters.{filter, count_if, any, first_at, pairs, ordered_pairs}
use Rattle.lists.specs.Numbers.{productℕ, factorial, how_many, position, insert_up, upward, members}
use Rattle.lists.specs.{Sums.sum_from, Rows.entry}
use Rattle.outcome.specs.{Refusals.first, Refusals.short, Outcome.refused}
use Rattle.lot.specs.Kept.{twice, kept, gathered, kept_labels, group_labels, groups, kept_count, group_count}
use Rattle.lot.specs.{Strata.strata, Way.δ, Way.mark, Way.tally, Mirror.unmirrored, Lines.bad_distance, Lines.misfits, Lines.test_lines, Cases.example, Cases.zeros}
use Rattle.permanova_sums.specs.Squares.{square_at, weight_at, pair_term_at, weighted_square_at, pair_terms, weighted_squares, weights_of, pair_terms_of, weighted_squares_of}
use Rattle.permanova_sums.specs.PairSums.{row_sum, rows_sum, pair_sum}
use Rattle.permanova_location.specs.Location.{total, group_weight, group_within, within, f_ratio, pseudo_f}
use Rattle.permanova_dispersion.specs.Dispersion as dispersion
use Rattle.permanova_dispersion.specs.Dispersion.{inside, weighted_square_sum, value_of, value, values, distance_of}
use Rattle.permanova_dispersion.specs.Anova.{grand_mean, group_mean, group_means, squared, share, between, residual_at, residual, anova_f}
use Rattle.permanova_statistics.specs.Statistics.{total_of, within_of, location_f, z_of, dispersion_f}
use Rattle.permanova_statistics.specs.Statistics as statistics
use Rattle.permanova_p_values.specs.Hits.{statistic, hit}
use Rattle.exhaustive_ways.specs.Ways.{spend, deal, ways_of, ways, size_factorials, label_factorials, way_count_of, way_count}
use Rattle.exhaustive_ways.proofs.Cases as ways-cases
use Rattle.exhaustive_hits.specs.Exhaustive.{location_of, dispersion_of, hits, location_hits, dispersion_hits}
use Rattle.exhaustive_hits.specs.Call.{Slices, too_short, exhaustive_lines, outcome_of}
use Rattle.exhaustive_hits.specs.inner.Call.{Long}

-- (d) labels 0, 1, 0, 1 of the example: 4 hits
pub case-d : location_hits (example (0 ∷ 1 ∷ 0 ∷ 1 ∷ [])) ≡ 4
unfolding location_hits hits location_of statistic hit threshold magnitude ways ways_of deal spend tally mark δ strata add sub mul div neg lt le of_bits
    of_int odd size larger location_f pseudo_f f_ratio total_of total rows_sum row_sum within_of within group_within group_weight pair_sum pairs members entry
    sum_from weights_of pair_terms_of pair_terms pair_term_at weight_at square_at grid rows table range up_from groups position first_at kept_count group_count
    group_labels kept_labels gathered kept twice how_many count_if filter upward insert_up
case-d = refl

-- (e) labels 0, 1, 1, 0: 6 hits
pub case-e : location_hits (example (0 ∷ 1 ∷ 1 ∷ 0 ∷ [])) ≡ 6
unfolding location_hits hits location_of statistic hit threshold magnitude ways ways_of deal spend tally mark δ strata add sub mul div neg lt le of_bits
    of_int odd size larger location_f pseudo_f f_ratio total_of total rows_sum row_sum within_of within group_within group_weight pair_sum pairs members entry
    sum_from weights_of pair_terms_of pair_terms pair_term_at weight_at square_at grid rows table range up_from groups position first_at kept_count group_count
    group_labels kept_labels gathered kept twice how_many count_if filter upward insert_up
case-e = refl

-- (f) all distances 0: every way hits in both F's
pub case-f-location : location_hits zeros ≡ 6
unfolding location_hits hits location_of statistic hit threshold magnitude ways ways_of deal spend tally mark δ strata add sub mul div neg lt le of_bits
    of_int odd size larger location_f pseudo_f f_ratio total_of total rows_sum row_sum within_of within group_within group_weight pair_sum pairs members entry
    sum_from weights_of pair_terms_of pair_terms pair_term_at weight_at square_at grid rows table range up_from groups position first_at kept_count group_count
    group_labels kept_labels gathered kept twice how_many count_if filter upward insert_up
case-f-location = refl

pub case-f-dispersion : dispersion_hits zeros ≡ 6
unfolding hits statistic hit threshold magnitude ways ways_of deal spend tally mark δ strata dispersion_hits dispersion_of statistics.dispersion_of
    dispersion_f anova_f residual residual_at between share squared group_means group_mean grand_mean z_of dispersion.z_of distance_of root values value
    value_of weighted_square_sum inside ordered_pairs weighted_squares_of weighted_squares weighted_square_at add sub mul div neg lt le of_bits of_int odd size
    larger f_ratio group_weight members entry sum_from weights_of pair_terms_of pair_terms pair_term_at weight_at square_at grid rows table range up_from groups
    position first_at kept_count group_count group_labels kept_labels gathered kept twice how_many count_if filter upward insert_up
case-f-dispersion = refl

-- (i) 9 and 9 in one stratum: 48,620 ways, so 8, whatever the distances allowed, that mirror themselves, with slices that are long enough
long-fits : (n : ℕ) (s : Slices) → Long n s → too_short n s ≡ false
unfolding too_short short
long-fits n s l = rw (
  le-ltb (length s.labels) n l.labels,
  le-ltb (length s.counts) n l.counts,
  le-ltb (length s.means) n l.means,
  le-ltb (length s.pair_terms) (n * n) l.pair_terms,
  le-ltb (length s.weighted_squares) (n * n) l.weighted_squares,
  le-ltb (length s.coords) (16 + 8 * n) l.coords,
  le-ltb (length s.eigenpairs) (n + n * n) l.eigenpairs,
  le-ltb (length s.vectors) (n * n) l.vectors,
  le-ltb (length s.label_counts) (n * n) l.label_counts,
) refl

pub case-i : (d : List Float) (s : Slices) → length d ≡ 324 → any bad_distance d ≡ false → unmirrored 18 d ≡ false → Long 18 s
    → outcome_of (ways-cases.halves d 9) s ≡ refused 8
unfolding outcome_of exhaustive_lines first test_lines misfits group_count group_labels kept_labels gathered kept twice how_many count_if filter range up_from
    upward insert_up way_count way_count_of size_factorials label_factorials productℕ factorial tally mark δ groups position first_at strata table
case-i d s e v m l = rw (long-fits 18 s l, e, v, m) refl
