-- Calls of `top_eigs` on small matrices.
use Rattle.lists.proofs.Base.{◌≡◌, refl, [], ◌∷◌, replicate}
use lib.Ieee.{of_bits, lt, neg, add, mul, is_nan}
use Rattle.float.specs.Floats.{zero⁺, 1·0, 2·0, 3·0}
use Rattle.lists.specs.{Loops.in_turn, Ranges.up_from, Ranges.range, Ranges.table, Ranges.rows, Ranges.grid, Filters.filter}
use Rattle.lists.specs.{Filters.any, Filters.first_at, Sums.sum_from, Rows.entry, Rows.row, Writes.over, Writes.cleared}
use Rattle.outcome.specs.declared.Refusal.TheVariants.{Limit}
use Rattle.std.specs.Prelude.{Ok, Err}
use Rattle.outcome.specs.{Refusals.first, Refusals.short, Outcome.and_then, Slices.output, Slices.work}
use Rattle.eigen_rotations.specs.{Sweeps.squares_but, Sweeps.off_diagonal, Sweeps.sweeps_from, Diagonal.unit, Diagonal.identity, Diagonal.diagonal}
use Rattle.eigen_jacobi.specs.Descending.{insert_at, insert_down, descending, values_in, vectors_in}
use Rattle.eigen_jacobi.specs.Eigen.{eigenpairs, jacobi}
use Rattle.eigen_ritz.specs.Given.{written}
use Rattle.eigen_top.specs.{Leading.leading, TopLines.misfits, TopLines.beyond, TopLines.top_lines, TopEigs.top_eigs}
use Rattle.eigen_top.specs.Call.{called, leaves, top_call}

-- diagonal 1, 3 and one component: the value 3 and its vector. What lies behind them stays, and the work is zero.
pub diagonal-1-3 : top_call 1 2 (1·0 ∷ zero⁺ ∷ zero⁺ ∷ 3·0 ∷ []) (replicate 4 2·0) (replicate 6 2·0) (replicate 4 2·0) (replicate 5 2·0)
    ≡ called (Ok tt) (3·0 ∷ zero⁺ ∷ 1·0 ∷ 2·0 ∷ []) (replicate 6 zero⁺) (replicate 4 zero⁺) (replicate 5 zero⁺)
unfolding top_call leaves written misfits beyond top_lines top_eigs leading first short and_then output work over cleared jacobi eigenpairs values_in
    vectors_in descending insert_down insert_at diagonal identity unit sweeps_from off_diagonal squares_but entry row sum_from filter any first_at up_from
    range table rows grid in_turn is_nan lt add mul neg of_bits
diagonal-1-3 = refl

-- n = 0: an empty answer, and 0 components are refused all the same
pub none : top_call 1 0 [] (2·0 ∷ []) (2·0 ∷ []) [] [] ≡ called (Ok tt) (2·0 ∷ []) (zero⁺ ∷ []) [] []
unfolding top_call leaves written misfits beyond top_lines top_eigs leading first short and_then output work over cleared jacobi eigenpairs values_in
    vectors_in descending diagonal identity sweeps_from off_diagonal squares_but sum_from any up_from range table rows grid in_turn is_nan lt add mul neg
    of_bits
none = refl

pub none-of-none : top_call 0 0 [] (2·0 ∷ []) (2·0 ∷ []) [] [] ≡ called (Err Limit) (2·0 ∷ []) (2·0 ∷ []) [] []
unfolding top_call leaves written misfits beyond top_lines first short any output work
none-of-none = refl
