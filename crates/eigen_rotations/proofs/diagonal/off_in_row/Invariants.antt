-- `eigen_rotations::diagonal::off_in_row` meets its contract. What is left to add from entry j on gives the whole sum.
use Rattle.lists.proofs.Base.{◌≡◌, not, map, ◌≤◌, eqb, length, get_or, nan}
use Rattle.float.specs.Floats.{◌⊗◌}
use Rattle.lists.specs.{Ranges.range, Filters.filter, Sums.sum_from}
use Rattle.eigen_rotations.specs.Sweeps.{squares_but}
use Rattle.eigen_rotations.proofs.diagonal.off_in_row.Given as goal

abbrev pub invariant-loop-j : goal.invariant-loop-j
invariant-loop-j l = (l.j ≤ length l.row) × (sum_from l.t (map (λ j. get_or l.row j nan ⊗ get_or l.row j nan) (filter (λ j. not (eqb j l.i)) (range l.j (length l.row))))
    ≡ sum_from l.sum (squares_but l.i l.row))
