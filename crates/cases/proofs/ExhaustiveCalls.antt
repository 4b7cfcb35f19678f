-- Judged samples of the trade: (d) to (i) through calls of `exhaustive`.
use Rattle.lists.proofs.Base.{◌≡◌, refl, ap, ◌∙◌, List, [], ◌∷◌, ◌++◌, ℕ, get_or, replicate}
use lib.Ieee.{Float, le, ne, of_bits, to_bits, of_int, odd, size}
use Rattle.float.specs.Floats.{zero⁺, f64}
use Rattle.lists.specs.{Ranges.up_from, Ranges.range, Ranges.table, Filters.filter, Filters.count_if, Filters.any, Filters.first_at, Rows.entry}
use Rattle.lists.specs.Numbers.{productℕ, factorial, how_many, contains, position, dedup, insert_up, upward}
use Rattle.outcome.specs.{Refusals.first, Refusals.short, Outcome.Outcome, Outcome.answered, Outcome.refused, Outcome.and_then}
use Rattle.outcome.specs.Slices.{output, work}
use Rattle.lot.specs.{Lot.Lot, Cases.example, Cases.zeros}
use Rattle.lot.specs.Kept.{twice, kept, gathered, kept_labels, group_labels, groups, group_count}
use Rattle.lot.specs.{Strata.named, Strata.numbered, Strata.held_strata, Strata.strata, Way.δ, Way.mark, Way.tally}
use Rattle.lot.specs.{Mirror.asymmetric, Mirror.nonzero_diagonal, Mirror.unmirrored, Lines.misfits, Lines.test_lines}
use Rattle.permanova_p_values.specs.Hits.{statistic}
use Rattle.ordination_coordinates.specs.Finish.{Coordinates}
use Rattle.exhaustive_hits.specs.declared.judgement.Judgement.{Judgement}
use Rattle.exhaustive_ways.specs.Ways.{size_factorials, label_factorials, way_count_of, way_count}
use Rattle.exhaustive_ways.proofs.Cases as ways
use Rattle.permanova.proofs.Cases as test
use Rattle.exhaustive_hits.specs.Exhaustive.{location_of, judgement, coordinates, exhaustive}
use Rattle.exhaustive_hits.specs.Call.{too_short, exhaustive_lines, call_in, call_by, outcome_of, exhaustive_call}
use Rattle.exhaustive_hits.proofs.Cases as every
use Rattle.cases.specs.Cases.{halves, apart, every_way, parts, told, finite, located, many, counted, Holds, d-hits, e-hits, f-hits, g-ways, h-every, i-eight, i-nine}
use Rattle.cases.proofs.CaseOrdinations.{of-example, of-zeros, of-sixteen}

-- no line turns these calls away
passes : ((every_way (example (0 ∷ 1 ∷ 0 ∷ 1 ∷ []))).answer ≡ exhaustive (example (0 ∷ 1 ∷ 0 ∷ 1 ∷ [])))
    × ((every_way (example (0 ∷ 1 ∷ 1 ∷ 0 ∷ []))).answer ≡ exhaustive (example (0 ∷ 1 ∷ 1 ∷ 0 ∷ []))) × ((every_way zeros).answer ≡ exhaustive zeros)
    × ((every_way apart).answer ≡ exhaustive apart) × ((every_way (halves 8)).answer ≡ exhaustive (halves 8))
unfolding exhaustive_call call_by call_in outcome_of exhaustive_lines too_short short any first test_lines misfits unmirrored asymmetric nonzero_diagonal entry ne le of_bits of_int odd size
    way_count way_count_of size_factorials label_factorials productℕ factorial tally mark δ strata numbered named dedup held_strata contains groups position
    first_at group_count group_labels kept_labels gathered kept twice how_many count_if filter table range up_from upward insert_up
passes = (refl, refl, refl, refl, refl)

-- where `pcoa` answers, so does the test; these parts of its answer do not go by the coordinates
module _ (lot : Lot) (f : Judgement → List ℕ) (l : List ℕ) (found : (x : List Float) → f (judgement lot x) ≡ l) where
  answers_by : (o : Outcome Coordinates) → parts (λ c. 1 ∷ []) o ≡ 1 ∷ [] → told f (and_then o (λ c. answered (judgement lot c.coords))) ≡ 0 ∷ l
  unfolding and_then
  answers_by (answered c) e = ap (λ (k : List ℕ). 0 ∷ k) (found c.coords)
  answers_by (refused r) e = cc

  answers : parts (λ c. 1 ∷ []) (coordinates lot) ≡ 1 ∷ [] → told f (exhaustive lot) ≡ 0 ∷ l
  unfolding exhaustive
  answers e = answers_by (coordinates lot) e

-- (d) labels 0, 1, 0, 1 of the example: F 0.125, 4 hits; (e) 0, 1, 1, 0: F 0, 6 hits
bits_are : (finite (statistic (f64 0x3fc0_0000_0000_0000)) ≡ 0x3fc0_0000_0000_0000 ∷ []) × (finite (statistic zero⁺) ≡ 0 ∷ [])
unfolding statistic of_bits to_bits
bits_are = (refl, refl)

pub case-d : Holds d-hits
unfolding judgement location_of coordinates
case-d = ap (told located) passes.0
    ∙ answers (example (0 ∷ 1 ∷ 0 ∷ 1 ∷ [])) located _ (λ x. (λ i. finite (statistic (test.case-d i)) ++ (every.case-d i ∷ [])) ∙ ap (λ l. l ++ (4 ∷ [])) bits_are.0) of-example

pub case-e : Holds e-hits
unfolding judgement location_of coordinates
case-e = ap (told located) passes.1
    ∙ answers (example (0 ∷ 1 ∷ 1 ∷ 0 ∷ [])) located _ (λ x. (λ i. finite (statistic (test.case-e i)) ++ (every.case-e i ∷ [])) ∙ ap (λ l. l ++ (6 ∷ [])) bits_are.1) of-example

-- (f) all distances 0: every way hits in both F's
pub case-f : Holds f-hits
unfolding judgement
case-f = ap (told counted) passes.2
    ∙ answers zeros counted _ (λ x i. get_or (ways.cases (replicate 16 zero⁺) i) 1 0 ∷ every.case-f-location i ∷ every.case-f-dispersion i ∷ []) of-zeros

-- (g) labels 0, 0, 1, 1 with strata 0, 0, 1, 1: M 1; (i) 8 and 8 in one stratum: M 12,870
pub case-g : Holds g-ways
unfolding judgement coordinates
case-g = ap (told many) passes.3 ∙ answers apart many _ (λ x i. get_or (ways.cases (replicate 16 zero⁺) i) 0 0 ∷ []) of-zeros

pub case-i-eight : Holds i-eight
unfolding judgement
case-i-eight = ap (told many) passes.4 ∙ answers (halves 8) many _ (λ x i. get_or (ways.cases (replicate 256 zero⁺) i) 2 0 ∷ []) of-sixteen

-- (h) labels 0, 0, 1: 5, and every slice as it was
pub case-h : Holds h-every
unfolding output work exhaustive_call call_by call_in outcome_of exhaustive_lines too_short short any first test_lines misfits unmirrored asymmetric nonzero_diagonal entry ne le of_bits
    of_int odd size way_count way_count_of size_factorials label_factorials productℕ factorial tally mark δ strata numbered named dedup held_strata contains
    groups position first_at group_count group_labels kept_labels gathered kept twice how_many count_if filter table range up_from upward insert_up
case-h = refl

-- (i) 9 and 9: 48,620 ways, so 8, and every slice as it was
pub case-i-nine : Holds i-nine
unfolding output work exhaustive_call call_by call_in outcome_of exhaustive_lines too_short short any first test_lines misfits unmirrored asymmetric nonzero_diagonal entry ne le of_bits
    of_int odd size way_count way_count_of size_factorials label_factorials productℕ factorial tally mark δ strata numbered named dedup held_strata contains
    groups position first_at group_count group_labels kept_labels gathered kept twice how_many count_if filter table range up_from upward insert_up
case-i-nine = refl
