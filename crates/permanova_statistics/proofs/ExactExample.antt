-- The exact case at a lot of five samples, four of them kept, with weights 1 and a distance of -0.0: the statement, and every sum evaluated.
use Rattle.lists.proofs.Base.{◌≡◌, refl, true, false, List, [], ◌∷◌, map, ℕ, replicate}
use lib.Ieee.{add, mul, neg, lt, le, eq, ne, of_bits, of_int, to_unsigned, odd, size}
use Rattle.float.specs.Floats.{num, zero⁻, 1·0}
use Rattle.lists.specs.Ranges.{up_from, range, table, rows, grid}
use Rattle.lists.specs.Filters.{filter, count_if, any, first_at, pairs}
use Rattle.lists.specs.{Numbers.sumℕ, Numbers.how_many, Numbers.position, Numbers.insert_up, Numbers.upward, Numbers.members, Sums.sum_from, Rows.entry}
use Rattle.outcome.specs.Outcome as outcome
use Rattle.outcome.specs.Refusals.{first}
use Rattle.lot.specs.Lot.{Lot, lot_of}
use Rattle.lot.specs.Kept.{twice, kept, gathered, kept_labels, group_labels, groups, kept_count, group_count}
use Rattle.lot.specs.{Mirror.asymmetric, Mirror.nonzero_diagonal, Mirror.unmirrored, Lines.misfits, Lines.test_lines}
use Rattle.permanova_sums.specs.Squares.{square_at, weight_at, pair_term_at, pair_terms, weights_of, pair_terms_of}
use Rattle.permanova_sums.specs.PairSums.{row_sum, rows_sum, pair_sum}
use Rattle.permanova_statistics.specs.Exact.{inexact, whole_square, whole_total, whole_within, Exact}
use Rattle.permanova_statistics.proofs.Exact.{exact-sums}

-- the sample in the middle has a label of its own
abbrev labels : List ℕ
labels = 0 ∷ 0 ∷ 7 ∷ 1 ∷ 1 ∷ []

abbrev five : Lot
five = lot_of 5 (num 0 ∷ zero⁻ ∷ map num (5 ∷ 8 ∷ 1000
    ∷ 0 ∷ 0 ∷ 3 ∷ 6 ∷ 8
    ∷ 5 ∷ 3 ∷ 0 ∷ 7 ∷ 9
    ∷ 8 ∷ 6 ∷ 7 ∷ 0 ∷ 3
    ∷ 1000 ∷ 8 ∷ 9 ∷ 3 ∷ 0
    ∷ [])) labels false [] true (replicate 5 1·0)

-- it is accepted and of the exact case
accepted : first (test_lines five false false) ≡ outcome.passed
unfolding first test_lines misfits any lt le eq ne neg of_bits of_int odd size unmirrored asymmetric nonzero_diagonal entry
    group_count group_labels kept_labels gathered kept twice how_many count_if filter range up_from upward insert_up
accepted = refl

whole : inexact five ≡ false
unfolding inexact any eq neg of_bits of_int odd size to_unsigned
whole = refl

pub five-exact : Exact five
five-exact = exact-sums five false false accepted whole

-- 0² + 8² + 1000² + 6² + 8² + 3² over all pairs, 0² and 3² over those of the groups
pub five-whole : (whole_total five ≡ 1000173) × (whole_within five (groups labels) 0 ≡ 0) × (whole_within five (groups labels) 1 ≡ 9)
unfolding whole_total whole_within whole_square to_unsigned neg of_bits of_int odd size pairs members sumℕ entry range up_from
    groups position first_at kept_count group_labels kept_labels gathered kept twice how_many count_if filter upward insert_up
five-whole = (refl, refl, refl)

-- the floats
pub five-sums : (rows_sum (pair_terms_of five) 4 ≡ num 1000173) × (pair_sum (pair_terms_of five) 4 (members (groups labels) 4 0) ≡ num 0)
    × (pair_sum (pair_terms_of five) 4 (members (groups labels) 4 1) ≡ num 9)
unfolding rows_sum row_sum pair_sum pairs members entry sum_from weights_of pair_terms_of pair_terms pair_term_at weight_at square_at grid rows table add mul neg of_bits of_int odd size
    range up_from groups position first_at kept_count group_labels kept_labels gathered kept twice how_many count_if filter upward insert_up
five-sums = (refl, refl, refl)
