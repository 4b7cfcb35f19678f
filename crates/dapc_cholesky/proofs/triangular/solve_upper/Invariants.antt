-- `dapc_cholesky::triangular::solve_upper` meets its contract. The unknowns from i on stand there.
use Rattle.lists.proofs.Base.{◌≡◌, ◌+◌, ◌-◌, length, set}
use Rattle.lists.specs.Loops.{in_turn}
use Rattle.dapc_cholesky.specs.Triangular.{upper_at}
use Rattle.dapc_cholesky.proofs.triangular.solve_upper.Given as goal

abbrev pub invariant-loop-i : goal.invariant-loop-i
invariant-loop-i l = (length l.x ≡ length l.initial.x) × (l.x ≡ in_turn (λ j y. set y (l.p - (j + 1)) (upper_at l.p l.l l.b (l.p - (j + 1)) y)) (l.p - l.i) l.initial.x)
