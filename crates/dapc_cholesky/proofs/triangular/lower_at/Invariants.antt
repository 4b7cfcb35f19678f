-- `dapc_cholesky::triangular::lower_at` meets its contract. After k turns the first k products are taken off.
use Rattle.lists.proofs.Base.{◌≡◌, ◌≤◌, get_or, nan}
use Rattle.float.specs.Floats.{◌⊖◌, ◌⊗◌}
use Rattle.lists.specs.{Ranges.table, Loops.in_turn, Rows.entry}
use Rattle.dapc_cholesky.proofs.triangular.lower_at.Given as goal

abbrev pub invariant-loop-k : goal.invariant-loop-k
invariant-loop-k l = (l.k ≤ l.i) × (l.s ≡ in_turn (λ n t. t ⊖ entry l.p l.l l.i n ⊗ get_or l.x n nan) l.k (get_or (table l.p (λ n. entry l.p l.b n l.c)) l.i nan))
