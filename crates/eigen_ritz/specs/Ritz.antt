-- Section 4: Rayleigh-Ritz, the last step of `top_eigs` above n = 64. A block q of b columns of n entries, with its product aq, has a small matrix of its own;
-- the eigenvectors of that matrix are turned back into vectors of n entries. Definitions only.
use Rattle.std.specs.Prelude.{ℕ, List, take, Float}
use Rattle.outcome.specs.Outcome.{Outcome, answered, and_then}
use Rattle.eigen_jacobi.specs.Eigen.{jacobi}
use Rattle.eigen_matrix.specs.Symmetric.{symmetrised}
use Rattle.eigen_ritz.specs.Projected.{projected_matrix}
use Rattle.eigen_ritz.specs.RitzVectors.{ritz_vectors}

-- k values, and k vectors as rows of n
pub record Pairs : Type 0 where
  pub values : List Float
  pub vectors : List Float

-- the first k eigenpairs of the small matrix, turned back
unfoldable pub rayleigh_ritz : ℕ → ℕ → ℕ → List Float → List Float → Outcome Pairs
rayleigh_ritz n b k q aq =
    and_then (jacobi b (symmetrised b (projected_matrix n b q aq))) (λ e. answered (record { values = take k e.values; vectors = ritz_vectors n b k e.vectors q }))
