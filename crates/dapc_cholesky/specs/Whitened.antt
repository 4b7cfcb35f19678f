-- Section 5: the inverse of l on both sides of a p by p matrix. Definitions only.
use Rattle.std.specs.Prelude.{ℕ, List, Float}
use Rattle.eigen_matrix.specs.Symmetric.{symmetrised}
use Rattle.dapc_cholesky.specs.Triangular.{solve_columns}

-- both sides, made symmetric
unfoldable pub whitened : ℕ → List Float → List Float → List Float
whitened p l sb = symmetrised p (solve_columns p l (solve_columns p l sb))
