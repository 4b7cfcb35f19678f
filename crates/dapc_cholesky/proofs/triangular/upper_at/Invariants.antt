-- `dapc_cholesky::triangular::upper_at` meets its contract. The products from i + 1 up to k are taken off.
use Rattle.lists.proofs.Base.{◌≡◌, ◌+◌, ◌≤◌, get_or, nan}
use Rattle.float.specs.Floats.{◌⊖◌, ◌⊗◌}
use Rattle.lists.specs.{Loops.from_to, Rows.entry}
use Rattle.dapc_cholesky.proofs.triangular.upper_at.Given as goal

abbrev pub invariant-loop-k : goal.invariant-loop-k
invariant-loop-k l = (l.i + 1 ≤ l.k) × (l.k ≤ l.p) × (l.s ≡ from_to (λ n t. t ⊖ entry l.p l.l n l.i ⊗ get_or l.x n nan) (l.i + 1) l.k (get_or l.b l.i nan))
