-- Section 4, `jacobi_eigen`: at most 100 sweeps. Definitions only.
use Rattle.std.specs.Prelude.{ℕ, zero, suc, ◌+◌, true, false, not, List, map, eqb, length, get_or, Float}
use Rattle.std.specs.Float.{nan}
use Rattle.std.specs.Float.Ieee.{lt}
use Rattle.float.specs.Floats.{◌⊗◌, 1e-22}
use Rattle.lists.specs.Ranges.{range, rows}
use Rattle.lists.specs.Filters.{filter}
use Rattle.lists.specs.Sums.{sum⁻}
use Rattle.lists.specs.Rows.{row}
use Rattle.eigen_rotations.specs.Rotation.{Turned}
use Rattle.eigen_rotations.specs.Pairs.{sweep}

-- the squares of a row's entries but entry i
unfoldable pub squares_but : ℕ → List Float → List Float
squares_but i r = map (λ j. get_or r j nan ⊗ get_or r j nan) (filter (λ j. not (eqb j i)) (range 0 (length r)))

-- the sum of squared off-diagonal entries, row by row
unfoldable pub off_diagonal : ℕ → List Float → Float
off_diagonal n a = sum⁻ (rows n (λ i. squares_but i (row n i a)))

-- the sweeps made, and what they left
pub record Swept : Type 0 where
  pub sweeps : ℕ
  pub left : Turned

abbrev pub swept : ℕ → Turned → Swept
swept made st = record { sweeps = made; left = st }

-- at most `more` sweeps more; none once the off-diagonal sum is below 1e-22
unfoldable pub sweeps_from : ℕ → ℕ → ℕ → Turned → Swept
sweeps_from zero n made st = swept made st
sweeps_from (suc more) n made st = elim (lt (off_diagonal n st.matrix) 1e-22) as (λ b. Swept) [
  | true ↦ swept made st
  | false ↦ sweeps_from more n (made + 1) (sweep n st)
]
