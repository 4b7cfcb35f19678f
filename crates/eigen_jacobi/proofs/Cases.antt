-- Document 01's case (k), and one with a rotation, computed.
use Rattle.lists.proofs.Base.{◌≡◌, refl, [], ◌∷◌, replicate}
use lib.Ieee.{add, mul, lt, is_nan, of_bits, neg}
use Rattle.float.specs.Floats.{zero⁺, 1·0, 2·0, 3·0}
use Rattle.lists.specs.{Loops.in_turn, Ranges.up_from, Ranges.range, Ranges.table, Ranges.rows, Ranges.grid}
use Rattle.lists.specs.{Filters.filter, Filters.any, Filters.first_at, Sums.sum_from, Rows.entry, Rows.row, Writes.over, Writes.cleared}
use Rattle.eigen_rotations.specs.{Sweeps.squares_but, Sweeps.off_diagonal, Sweeps.sweeps_from, Diagonal.unit, Diagonal.identity, Diagonal.diagonal}
use Rattle.outcome.specs.{Refusals.first, Refusals.short, Outcome.and_then, Slices.output, Slices.work}
use Rattle.std.specs.Prelude.{Ok}
use Rattle.eigen_jacobi.specs.Descending.{insert_at, insert_down, descending, values_in, vectors_in}
use Rattle.eigen_jacobi.specs.Eigen.{eigenpairs, jacobi}
use Rattle.eigen_jacobi.specs.Call.{misfits, jacobi_lines, sweeps_of, written, leaves, jacobi_call, called}

-- (k) diagonal 1, 3: values 3, 1, and the vectors in that order. No sweep is made, what lies behind the output's first part stays, and the work is zero.
pub diagonal-1-3 : jacobi_call 2 (1·0 ∷ zero⁺ ∷ zero⁺ ∷ 3·0 ∷ []) (replicate 7 2·0) (replicate 4 2·0) (replicate 5 2·0)
    ≡ called (Ok 0) (3·0 ∷ 1·0 ∷ zero⁺ ∷ 1·0 ∷ 1·0 ∷ zero⁺ ∷ 2·0 ∷ []) (replicate 4 zero⁺) (replicate 5 zero⁺)
unfolding jacobi_call leaves written sweeps_of misfits jacobi_lines first short and_then output work over cleared jacobi eigenpairs values_in vectors_in
    descending insert_down insert_at diagonal identity unit sweeps_from off_diagonal squares_but entry row sum_from filter any first_at up_from range table
    rows grid in_turn is_nan lt add mul neg of_bits
diagonal-1-3 = refl
