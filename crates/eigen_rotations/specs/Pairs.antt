-- Section 4, `jacobi_eigen`: a sweep over all pairs. Definitions only.
use Rattle.std.specs.Prelude.{ℕ, ◌+◌}
use Rattle.lists.specs.Loops.{in_turn, from_to}
use Rattle.eigen_rotations.specs.Rotation.{Turned, rotate}

-- row p against each later one, and a sweep: every pair p < q, row by row
unfoldable pub sweep_row : ℕ → ℕ → Turned → Turned
sweep_row n p st = from_to (rotate n p) (p + 1) n st

unfoldable pub sweep : ℕ → Turned → Turned
sweep n st = in_turn (sweep_row n) n st
