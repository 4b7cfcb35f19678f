-- `eigen_ritz::ritz_vectors::combine_at` meets its contract. With the products from column c on, s is the whole sum.
use Rattle.lists.proofs.Base.{◌≡◌, map, ◌≤◌}
use Rattle.float.specs.Floats.{◌⊗◌}
use Rattle.lists.specs.{Ranges.range, Sums.sum_from, Rows.entry}
use Rattle.eigen_ritz.specs.RitzVectors.{ritz_vector_at}
use Rattle.eigen_ritz.proofs.ritz_vectors.combine_at.Given as goal

abbrev pub invariant-loop-c : goal.invariant-loop-c
invariant-loop-c l = (l.c ≤ l.b) × (sum_from l.s (map (λ c. entry l.b l.v l.j c ⊗ entry l.n l.q c l.i) (range l.c l.b)) ≡ ritz_vector_at l.n l.b l.v l.q l.j l.i)
