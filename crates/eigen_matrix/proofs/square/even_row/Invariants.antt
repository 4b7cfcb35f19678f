-- `eigen_matrix::square::even_row` meets its contract. The pairs of row i up to column j are evened.
use Rattle.lists.proofs.Base.{◌≡◌, ◌+◌}
use Rattle.lists.specs.Loops.{from_to}
use Rattle.eigen_matrix.specs.inner.Symmetric.{evened}
use Rattle.eigen_matrix.proofs.square.even_row.Given as goal

abbrev pub invariant-loop-j : goal.invariant-loop-j
invariant-loop-j l = l.m ≡ from_to (evened l.p l.i) (l.i + 1) l.j l.initial.m
