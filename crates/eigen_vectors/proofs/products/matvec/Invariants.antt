-- `eigen_vectors::products::matvec` meets its contract. The invariant: the first 4 k entries are written.
use Rattle.lists.proofs.Base.{◌*◌}
use Rattle.lists.specs.Rows.{row}
use Rattle.lists.proofs.Writes.{Writing}
use Rattle.eigen_vectors.specs.Vectors.{dot}
use Rattle.eigen_vectors.proofs.products.matvec.Given as goal

abbrev pub invariant-loop-k : goal.invariant-loop-k
invariant-loop-k l = Writing (λ i. dot (row l.a.n i l.a.entries.now) l.x) l.initial.y l.y (4 * l.k)
