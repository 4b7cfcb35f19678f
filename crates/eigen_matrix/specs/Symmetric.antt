-- An n by n matrix made symmetric: section 4's small matrix, and section 5's whitened one. Definitions only.
use Rattle.std.specs.Prelude.{ℕ, min, max, cond, List, eqb, Float}
use Rattle.float.specs.Floats.{◌⊕◌, ◌⊘◌, 2·0}
use Rattle.lists.specs.Ranges.{grid}
use Rattle.lists.specs.Rows.{entry}

-- (t + its transpose)/2 off the diagonal
unfoldable pub symmetrised : ℕ → List Float → List Float
symmetrised n t = grid n n (λ i j. cond (eqb i j) (entry n t i j) ((entry n t (min i j) (max i j) ⊕ entry n t (max i j) (min i j)) ⊘ 2·0))
