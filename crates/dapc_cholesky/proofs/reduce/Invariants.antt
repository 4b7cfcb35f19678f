-- `dapc_cholesky::reduce` meets its contract. After k turns the first k products are taken off.
use Rattle.lists.proofs.Base.{◌≡◌, ◌≤◌}
use Rattle.float.specs.Floats.{◌⊖◌, ◌⊗◌}
use Rattle.lists.specs.{Loops.in_turn, Rows.entry}
use Rattle.dapc_cholesky.proofs.reduce.Given as goal

abbrev pub invariant-loop-k : goal.invariant-loop-k
invariant-loop-k l = (l.k ≤ l.j) × (l.s ≡ in_turn (λ n t. t ⊖ entry l.p l.l l.i n ⊗ entry l.p l.l l.j n) l.k (entry l.p l.a l.i l.j))
