-- `eigen_ritz::ritz_vectors::combine_row` meets its contract. After i turns the first i entries are written.
use Rattle.lists.proofs.Writes.{Writing}
use Rattle.eigen_ritz.specs.RitzVectors.{ritz_vector_at}
use Rattle.eigen_ritz.proofs.ritz_vectors.combine_row.Given as goal

abbrev pub invariant-loop-i : goal.invariant-loop-i
invariant-loop-i l = Writing (ritz_vector_at l.n l.b l.v l.q l.j) l.initial.row l.row l.i
