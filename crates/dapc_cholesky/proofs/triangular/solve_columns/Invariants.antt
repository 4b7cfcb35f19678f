-- `dapc_cholesky::triangular::solve_columns` meets its contract. After c turns the first c columns are solved.
use Rattle.lists.specs.{Ranges.table, Rows.entry}
use Rattle.lists.proofs.{Writes.Filling}
use Rattle.dapc_cholesky.specs.Triangular.{solve_lower}
use Rattle.dapc_cholesky.proofs.triangular.solve_columns.Given as goal

abbrev pub invariant-loop-c : goal.invariant-loop-c
invariant-loop-c l = Filling l.p l.p (λ k. solve_lower l.p l.l (table l.p (λ n. entry l.p l.b n k))) l.initial.dst l.dst l.c
