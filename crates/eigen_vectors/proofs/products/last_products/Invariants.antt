-- `eigen_vectors::products::last_products` meets its contract. The entries up to i are written.
use Rattle.lists.proofs.Base.{◌≡◌, ◌≤◌, set}
use Rattle.lists.specs.{Rows.row, Loops.from_to}
use Rattle.eigen_vectors.specs.Vectors.{dot}
use Rattle.eigen_vectors.proofs.products.last_products.Given as goal

abbrev pub invariant-loop-i : goal.invariant-loop-i
invariant-loop-i l = (l.from ≤ l.i) × (l.i ≤ l.n) × (l.y ≡ from_to (λ k t. set t k (dot (row l.n k l.a) l.x)) l.from l.i l.initial.y)
