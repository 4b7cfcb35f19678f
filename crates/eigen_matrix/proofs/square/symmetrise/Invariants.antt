-- `eigen_matrix::square::symmetrise` meets its contract. After i turns the first i rows are evened; all of them make the matrix symmetric.
use Rattle.lists.proofs.Base.{◌≡◌}
use Rattle.lists.specs.Loops.{in_turn}
use Rattle.eigen_matrix.specs.inner.Symmetric.{evened_row}
use Rattle.eigen_matrix.proofs.square.symmetrise.Given as goal

abbrev pub invariant-loop-i : goal.invariant-loop-i
invariant-loop-i l = l.m ≡ in_turn (evened_row l.p) l.i l.initial.m
