-- Section 4: sums of a block's columns, by the rows of a small matrix. Definitions only.
use Rattle.std.specs.Prelude.{ℕ, List, Float}
use Rattle.float.specs.Floats.{◌⊗◌}
use Rattle.lists.specs.Ranges.{table, grid}
use Rattle.lists.specs.Sums.{sum⁻}
use Rattle.lists.specs.Rows.{entry}

-- entry i of the sum of the block's columns, each times its entry in row j of v; and k such rows
unfoldable pub ritz_vector_at : ℕ → ℕ → List Float → List Float → ℕ → ℕ → Float
ritz_vector_at n b v q j i = sum⁻ (table b (λ c. entry b v j c ⊗ entry n q c i))

unfoldable pub ritz_vectors : ℕ → ℕ → ℕ → List Float → List Float → List Float
ritz_vectors n b k v q = grid k n (ritz_vector_at n b v q)
