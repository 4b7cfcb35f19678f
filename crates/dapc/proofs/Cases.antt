-- Judged samples of the trade: case (l). m = 4, g = 2: 9; m = 5 with 2 columns passes.
use Rattle.lists.proofs.Base.{◌≡◌, refl, ap, Bool, false, cond, List, [], ◌∷◌, ℕ, min, min-le_right, arith, lt-ltb, length, Float}
use Rattle.lists.specs.{Ranges.up_from, Ranges.range, Filters.filter, Filters.count_if, Filters.any, Numbers.how_many, Numbers.insert_up, Numbers.upward}
use Rattle.outcome.specs.{Outcome.refused, Outcome.passed, Refusals.first, Refusals.short}
use Rattle.lot.specs.Kept.{twice, kept, gathered, kept_labels, group_labels, kept_count, group_count}
use Rattle.dapc_discriminant.specs.Dapc.{columns_used}
use Rattle.dapc.specs.DapcLines.{misfits, bad_coordinate, shape_lines, group_lines, dapc_lines}

-- whatever the columns
pub case-l-nine : (columns : ℕ) → first (group_lines columns 4 2) ≡ refused 9
unfolding first group_lines columns_used
case-l-nine columns = ap (λ (b : Bool). cond b (refused 9) passed) (lt-ltb (min columns 1) 2 (omega (arith, min-le_right columns 1)))

pub case-l-passes : first (group_lines 2 5 2) ≡ passed
unfolding first group_lines columns_used
case-l-passes = refl

-- Calls: two labels of two samples each, and of two and three, with 2 columns of any coordinates allowed and outputs of just the length.
pub call-of-four : (x : List Float) → length x ≡ 8 → any bad_coordinate x ≡ false → first (dapc_lines 4 2 x (0 ∷ 0 ∷ 1 ∷ 1 ∷ []) 10 4) ≡ refused 9
unfolding first dapc_lines shape_lines group_lines misfits short any columns_used kept_count group_count group_labels kept_labels gathered kept twice
    how_many count_if filter range up_from upward insert_up
call-of-four x e v = rw (e, v)

pub call-of-five : (x : List Float) → length x ≡ 10 → any bad_coordinate x ≡ false → first (dapc_lines 5 2 x (0 ∷ 0 ∷ 1 ∷ 1 ∷ 1 ∷ []) 12 5) ≡ passed
unfolding first dapc_lines shape_lines group_lines misfits short any columns_used kept_count group_count group_labels kept_labels gathered kept twice
    how_many count_if filter range up_from upward insert_up
call-of-five x e v = rw (e, v)
