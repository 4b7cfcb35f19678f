-- Section 4: the rounds of the block iteration. Definitions only.
use Rattle.std.specs.Prelude.{ℕ, zero, suc, Bool, true, false, Float}
use mathlib.Core.List.{List, zip_with}
use Rattle.std.specs.Float.Ieee.{le}
use Rattle.float.specs.Floats.{◌⊖◌, ◌⊗◌, 1e-10, 1e-12}
use Rattle.float.specs.Order.{magnitude, larger}
use Rattle.lists.specs.Ranges.{table}
use Rattle.lists.specs.Filters.{all}
use Rattle.lists.specs.Rows.{row}
use Rattle.eigen_vectors.specs.Vectors.{dot, plus_times}
use Rattle.eigen_vectors.specs.Products.{times_block}
use Rattle.eigen_block.specs.Orthonormal.{orthonormal}

-- one step of the block: (a + shift) q made orthonormal
unfoldable pub block_step : ℕ → List Float → ℕ → Float → List Float → List Float
block_step n a b shift q = orthonormal n b (plus_times shift (times_block n a b q) q)

-- the first k Ritz values of a block q, with its product aq
unfoldable pub ritz : ℕ → ℕ → List Float → List Float → List Float
ritz n k q aq = table k (λ j. dot (row n j q) (row n j aq))

-- whether the Ritz value r has settled since p, and whether all have
unfoldable pub converged_at : Float → Float → Bool
converged_at r p = le (magnitude (r ⊖ p)) (1e-10 ⊗ larger (magnitude r) 1e-12)

unfoldable pub converged : List Float → List Float → Bool
converged latest before = all (λ b. b) (zip_with converged_at latest before)

-- at most so many rounds more: each steps the block, until its first k Ritz values have settled
unfoldable pub iterate : ℕ → ℕ → List Float → ℕ → ℕ → Float → List Float → List Float → List Float
iterate zero n a b k shift before q = q
iterate (suc more) n a b k shift before q =
    let p = block_step n a b shift q in
    let latest = ritz n k p (times_block n a b p) in
    elim (converged latest before) as (λ d. List Float) [ true ↦ p | false ↦ iterate more n a b k shift latest p ]
