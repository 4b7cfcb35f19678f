-- `eigen_rotations::diagonal::gather_diagonal` meets its contract. After i turns the first i entries are written.
use Rattle.lists.specs.{Rows.entry}
use Rattle.lists.proofs.{Writes.Writing}
use Rattle.eigen_rotations.proofs.diagonal.gather_diagonal.Given as goal

abbrev pub invariant-loop-i : goal.invariant-loop-i
invariant-loop-i l = Writing (λ k. entry l.n l.m k k) l.initial.d l.d l.i
