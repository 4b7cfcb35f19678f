-- `eigen_matrix::square::trace` meets its contract. What is left of the sum stays the same.
use Rattle.lists.proofs.Base.{◌≤◌, ◌≡◌, map}
use Rattle.float.specs.Floats.{zero⁻}
use Rattle.lists.specs.{Ranges.range, Rows.entry, Sums.sum_from}
use Rattle.eigen_matrix.proofs.square.trace.Given as goal

abbrev pub invariant-loop-i : goal.invariant-loop-i
invariant-loop-i l = (l.i ≤ l.n) × (sum_from l.s (map (λ k. entry l.n l.b k k) (range l.i l.n)) ≡ sum_from zero⁻ (map (λ k. entry l.n l.b k k) (range 0 l.n)))
