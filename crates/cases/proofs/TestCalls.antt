-- Judged samples of the trade: (c), (f) and (h) through calls of `test`.
use Rattle.lists.proofs.Base.{◌≡◌, refl, ap, ◌∙◌, [], ◌∷◌, ◌++◌, replicate}
use lib.Ieee.{add, sub, mul, div, neg, lt, le, ne, of_bits, to_bits, of_int, odd, size}
use Rattle.float.specs.{Floats.2·0, Floats.bits, Order.larger}
use Rattle.square_root.specs.Root.{root}
use Rattle.lists.specs.Ranges.{up_from, range, table, rows, grid}
use Rattle.lists.specs.Filters.{filter, count_if, any, first_at, pairs, ordered_pairs}
use Rattle.lists.specs.{Numbers.how_many, Numbers.position, Numbers.insert_up, Numbers.upward, Numbers.members, Sums.sum_from, Rows.entry}
use Rattle.lists.specs.Writes.{over, cleared}
use Rattle.outcome.specs.{Refusals.first, Refusals.short, Slices.output, Slices.work}
use Rattle.lot.specs.Cases.{example, zeros}
use Rattle.lot.specs.Kept.{twice, kept, gathered, kept_labels, group_labels, groups, kept_count, group_count, sizes}
use Rattle.lot.specs.{Mirror.asymmetric, Mirror.nonzero_diagonal, Mirror.unmirrored, Lines.misfits, Lines.test_lines}
use Rattle.permanova_sums.specs.Squares.{square_at, weight_at, pair_term_at, weighted_square_at, pair_terms, weighted_squares, weights_of, pair_terms_of, weighted_squares_of}
use Rattle.permanova_location.specs.Location.{group_weight}
use Rattle.permanova_dispersion.specs.Dispersion as dispersion
use Rattle.permanova_dispersion.specs.Dispersion.{inside, weighted_square_sum, value_of, value, values, distance_of}
use Rattle.permanova_dispersion.specs.Anova.{mean_of, mean_z}
use Rattle.permanova_p_values.specs.PValues.{given}
use Rattle.permanova_statistics.specs.{Statistics.z_of, Warnings.sizes_of}
use Rattle.permanova_sampling.specs.Tested.{tested}
use Rattle.permanova.specs.Call.{too_short, test_check, leaves, test_call}
use Rattle.permanova.proofs.Cases.{case-c-F}
use Rattle.permanova.proofs.Cases as sampled-cases
use Rattle.cases.specs.Cases.{sampled, told, held_test, Holds, c-F, f-sampled, h-sampled}

-- (c) the example: F 32
passes-c : told (λ r. bits r.f ∷ []) (sampled (example (0 ∷ 0 ∷ 1 ∷ 1 ∷ []))).answer ≡ 0 ∷ bits (tested (example (0 ∷ 0 ∷ 1 ∷ 1 ∷ [])) 1 9).f ∷ []
unfolding test_call leaves test_check too_short short any first test_lines misfits unmirrored asymmetric nonzero_diagonal entry ne le of_bits of_int odd size
    group_count group_labels kept_labels gathered kept twice how_many count_if filter range up_from upward insert_up
passes-c = refl

pub case-c : Holds c-F
unfolding tested
case-c = passes-c ∙ ap (λ x. 0 ∷ bits x ∷ []) case-c-F

-- (f) all distances 0: no p, and the labels, counts and mean z in front of the outputs
passes-f : told (λ r. given r.p ∷ given r.disp_p ∷ []) (sampled zeros).answer ≡ 0 ∷ given (tested zeros 1 9).p ∷ given (tested zeros 1 9).disp_p ∷ []
unfolding test_call leaves test_check too_short short any first test_lines misfits unmirrored asymmetric nonzero_diagonal entry ne le of_bits of_int odd size
    group_count group_labels kept_labels gathered kept twice how_many count_if filter range up_from upward insert_up
passes-f = refl

slices-f : held_test (sampled zeros).after ≡ (0 ∷ 1 ∷ 7 ∷ 7 ∷ []) ++ (2 ∷ 2 ∷ 7 ∷ 7 ∷ []) ++ (0 ∷ 0 ∷ bits 2·0 ∷ bits 2·0 ∷ []) ++ replicate 32 0
unfolding test_call leaves output work over cleared sizes_of sizes mean_z mean_of z_of dispersion.z_of distance_of root values value value_of
    weighted_square_sum inside ordered_pairs group_weight weighted_squares_of weighted_squares weighted_square_at pair_terms_of pair_terms pair_term_at
    weights_of weight_at square_at sum_from members pairs grid rows table groups position first_at kept_count larger lt add sub mul div neg to_bits test_check
    too_short short any first test_lines misfits unmirrored asymmetric nonzero_diagonal entry ne le of_bits of_int odd size group_count group_labels kept_labels
    gathered kept twice how_many count_if filter range up_from upward insert_up
slices-f = refl

pub case-f : Holds f-sampled
case-f = let no-p = sampled-cases.case-f 1 9 in λ i. (passes-f ∙ (λ j. 0 ∷ given (no-p.0 j) ∷ given (no-p.1 j) ∷ [])) i ++ slices-f i

-- (h) labels 0, 0, 1: 5, and every slice as it was
pub case-h : Holds h-sampled
unfolding test_call leaves output work test_check too_short short any first test_lines misfits unmirrored asymmetric nonzero_diagonal entry ne le of_bits of_int
    odd size group_count group_labels kept_labels gathered kept twice how_many count_if filter range up_from upward insert_up
case-h = refl
