-- Section 4: a block is a list of b columns of n entries each, one after the other. A matrix times a column, and times a block. Definitions only.
use Rattle.std.specs.Prelude.{ℕ, List, Float}
use Rattle.lists.specs.Ranges.{table, rows}
use Rattle.lists.specs.Rows.{row}
use Rattle.eigen_vectors.specs.Vectors.{dot}

-- the n by n matrix a times a column
unfoldable pub times : ℕ → List Float → List Float → List Float
times n a x = table n (λ i. dot (row n i a) x)

-- and times each column of a block
unfoldable pub times_block : ℕ → List Float → ℕ → List Float → List Float
times_block n a b q = rows b (λ c. times n a (row n c q))
