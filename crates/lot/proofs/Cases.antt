-- Judged samples of the trade: case h. Labels 0,0,1 are turned away with 5, whatever the distances allowed, that mirror themselves.
use Rattle.lists.proofs.Base.{◌≡◌, refl, false, List, length, replicate}
use lib.Ieee.{Float, le, ne, of_bits}
use Rattle.float.specs.Floats.{zero⁺}
use Rattle.lists.specs.{Ranges.up_from, Ranges.range, Filters.filter, Filters.count_if, Filters.any, Numbers.how_many, Numbers.insert_up, Numbers.upward, Rows.entry}
use Rattle.outcome.specs.{Outcome.refused, Refusals.first}
use Rattle.lot.specs.{Cases.three, Kept.twice, Kept.kept, Kept.gathered, Kept.kept_labels, Kept.group_labels, Kept.group_count}
use Rattle.lot.specs.{Mirror.asymmetric, Mirror.nonzero_diagonal, Mirror.unmirrored, Lines.bad_distance, Lines.misfits, Lines.test_lines}

pub case-h : (d : List Float) → length d ≡ 9 → any bad_distance d ≡ false → unmirrored 3 d ≡ false → first (test_lines (three d) false false) ≡ refused 5
unfolding first test_lines misfits group_count group_labels kept_labels gathered kept twice how_many count_if filter range up_from upward insert_up
case-h d e v s = rw (e, v, s)

-- all distances 0
pub case-h-zero : first (test_lines (three (replicate 9 zero⁺)) false false) ≡ refused 5
unfolding any le ne of_bits unmirrored asymmetric nonzero_diagonal range up_from entry
case-h-zero = case-h (replicate 9 zero⁺) refl refl refl
