-- Section 5: the ridge of a p by p scatter within groups. Definitions only.
use Rattle.std.specs.Prelude.{ℕ, cond, List, eqb, Float}
use Rattle.float.specs.Floats.{◌⊕◌, ◌⊗◌, ◌⊘◌, num, 1e-8, 1e-12}
use Rattle.float.specs.Order.{larger}
use Rattle.lists.specs.Ranges.{grid}
use Rattle.lists.specs.Rows.{entry}
use Rattle.eigen_matrix.specs.Trace.{trace}

-- a tiny ridge on the diagonal
unfoldable pub ridge : ℕ → List Float → Float
ridge p sw = 1e-8 ⊗ larger (trace p sw) 1e-12 ⊘ num p

unfoldable pub ridged : ℕ → List Float → List Float
ridged p sw = let r = ridge p sw in grid p p (λ a b. cond (eqb a b) (entry p sw a b ⊕ r) (entry p sw a b))
