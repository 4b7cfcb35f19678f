-- Section 4: the small matrix of a block q of b columns of n entries, with its product aq. Definitions only.
use Rattle.std.specs.Prelude.{ℕ, List, Float}
use Rattle.lists.specs.Ranges.{grid}
use Rattle.lists.specs.Rows.{row}
use Rattle.eigen_vectors.specs.Vectors.{dot}

-- column i of the block and column j of its product
unfoldable pub projected_at : ℕ → List Float → List Float → ℕ → ℕ → Float
projected_at n q aq i j = dot (row n i q) (row n j aq)

unfoldable pub projected_matrix : ℕ → ℕ → List Float → List Float → List Float
projected_matrix n b q aq = grid b b (projected_at n q aq)
