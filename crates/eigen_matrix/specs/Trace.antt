-- The trace of an n by n matrix: section 4's total variance, and section 5's ridge. Definitions only.
use Rattle.std.specs.Prelude.{ℕ, List, Float}
use Rattle.lists.specs.Ranges.{table}
use Rattle.lists.specs.Rows.{entry}
use Rattle.lists.specs.Sums.{sum⁻}

-- the sum of the diagonal
unfoldable pub trace : ℕ → List Float → Float
trace n b = sum⁻ (table n (λ i. entry n b i i))
