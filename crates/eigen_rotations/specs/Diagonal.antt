-- Section 4, `jacobi_eigen`: the vectors at the start, and the values at the end. Definitions only.
use Rattle.std.specs.Prelude.{ℕ, cond, List, eqb, Float}
use Rattle.float.specs.Floats.{zero⁺, 1·0}
use Rattle.lists.specs.Ranges.{table, grid}
use Rattle.lists.specs.Rows.{entry}

-- the vectors at the start: entry i, j is 1 where i is j, and 0 elsewhere
unfoldable pub unit : ℕ → ℕ → Float
unit i j = cond (eqb i j) 1·0 zero⁺

unfoldable pub identity : ℕ → List Float
identity n = grid n n unit

-- the values at the end
unfoldable pub diagonal : ℕ → List Float → List Float
diagonal n a = table n (λ i. entry n a i i)
