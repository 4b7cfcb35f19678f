-- `eigen_ritz::projected::projected_row` meets its contract. After j turns the first j entries are written.
use Rattle.lists.proofs.{Writes.Writing}
use Rattle.eigen_ritz.specs.Projected.{projected_at}
use Rattle.eigen_ritz.proofs.projected.projected_row.Given as goal

abbrev pub invariant-loop-j : goal.invariant-loop-j
invariant-loop-j l = Writing (projected_at l.n l.q l.aq l.i) l.initial.row l.row l.j
