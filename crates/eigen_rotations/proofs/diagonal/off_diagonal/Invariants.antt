-- `eigen_rotations::diagonal::off_diagonal` meets its contract. After i turns the first i rows are added.
use Rattle.lists.proofs.Base.{◌≡◌}
use Rattle.float.specs.Floats.{zero⁻}
use Rattle.lists.specs.{Ranges.rows, Sums.sum_from, Rows.row}
use Rattle.eigen_rotations.specs.Sweeps.{squares_but}
use Rattle.eigen_rotations.proofs.diagonal.off_diagonal.Given as goal

abbrev pub invariant-loop-i : goal.invariant-loop-i
invariant-loop-i l = l.t ≡ sum_from zero⁻ (rows l.i (λ k. squares_but k (row l.n k l.m)))
