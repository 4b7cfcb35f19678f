-- `dapc_cholesky::triangular::solve_rows` meets its contract. After c turns the first c rows are solved.
use Rattle.lists.specs.Rows.{row}
use Rattle.lists.proofs.{Writes.Filling}
use Rattle.dapc_cholesky.specs.Triangular.{solve_upper}
use Rattle.dapc_cholesky.proofs.triangular.solve_rows.Given as goal

abbrev pub invariant-loop-c : goal.invariant-loop-c
invariant-loop-c l = Filling l.k l.p (λ n. solve_upper l.p l.l (row l.p n l.b)) l.initial.dst l.dst l.c
