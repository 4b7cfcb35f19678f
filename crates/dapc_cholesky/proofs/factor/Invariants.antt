-- `dapc_cholesky::factor` meets its contract. After i turns the first i rows stand there, and their pivots are tested.
use Rattle.dapc_cholesky.proofs.Pivots.{Factoring}
use Rattle.dapc_cholesky.proofs.factor.Given as goal

abbrev pub invariant-loop-i : goal.invariant-loop-i
invariant-loop-i l = Factoring l.p l.a l.l l.fails l.i
