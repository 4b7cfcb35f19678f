-- Section 5: the Cholesky factor l of a p by p matrix a: the lower triangle, row by row. Definitions only.
use Rattle.std.specs.Prelude.{ℕ, ◌+◌, ◌*◌, Bool, not, cond, List, eqb, set, replicate, Float}
use Rattle.std.specs.Float.Ieee.{lt}
use Rattle.float.specs.Floats.{◌⊖◌, ◌⊗◌, ◌⊘◌, zero⁺}
use Rattle.square_root.specs.Root.{root}
use Rattle.lists.specs.Ranges.{range}
use Rattle.lists.specs.Loops.{in_turn}
use Rattle.lists.specs.Filters.{any}
use Rattle.lists.specs.Rows.{entry}

-- a(i, j) less l(i, k)·l(j, k) for each k below j
unfoldable pub reduced : ℕ → List Float → List Float → ℕ → ℕ → Float
reduced p a l i j = in_turn (λ k s. s ⊖ entry p l i k ⊗ entry p l j k) j (entry p a i j)

-- the entry (i, j) put in its place
unfoldable pub chol_entry : ℕ → List Float → ℕ → ℕ → List Float → List Float
chol_entry p a i j l = let s = reduced p a l i j in set l (i * p + j) (cond (eqb i j) (root s) (s ⊘ entry p l j j))

unfoldable pub chol_row : ℕ → List Float → ℕ → List Float → List Float
chol_row p a i l = in_turn (chol_entry p a i) (i + 1) l

unfoldable pub factor : ℕ → List Float → List Float
factor p a = in_turn (chol_row p a) p (replicate (p * p) zero⁺)

-- a pivot not above 0, which a NaN is not
unfoldable pub pivot_fails : ℕ → List Float → List Float → Bool
pivot_fails p a l = any (λ i. not (lt zero⁺ (reduced p a l i i))) (range 0 p)
