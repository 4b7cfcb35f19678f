-- `dapc_cholesky::triangular::solve_lower` meets its contract. After i turns the first i unknowns stand there.
use Rattle.lists.proofs.Base.{◌≡◌, ◌≤◌, length, set}
use Rattle.lists.specs.{Ranges.table, Loops.in_turn, Rows.entry}
use Rattle.dapc_cholesky.specs.Triangular.{lower_at}
use Rattle.dapc_cholesky.proofs.triangular.solve_lower.Given as goal

abbrev pub invariant-loop-i : goal.invariant-loop-i
invariant-loop-i l = (l.i ≤ l.p) × (length l.x ≡ length l.initial.x) × (l.x ≡ in_turn (λ n y. set y n (lower_at l.p l.l (table l.p (λ n. entry l.p l.b n l.c)) n y)) l.i l.initial.x)
