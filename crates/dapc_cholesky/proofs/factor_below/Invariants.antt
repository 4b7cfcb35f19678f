-- `dapc_cholesky::factor_below` meets its contract. After j turns the first j entries of the row stand there.
use Rattle.lists.proofs.Base.{◌≡◌, ◌≤◌, length}
use Rattle.lists.specs.Loops.{in_turn}
use Rattle.dapc_cholesky.specs.Cholesky.{chol_entry}
use Rattle.dapc_cholesky.proofs.factor_below.Given as goal

abbrev pub invariant-loop-j : goal.invariant-loop-j
invariant-loop-j l = (l.j ≤ l.i) × (length l.l ≡ length l.initial.l) × (l.l ≡ in_turn (chol_entry l.p l.a l.i) l.j l.initial.l)
