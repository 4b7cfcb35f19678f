-- Judged samples of the trade: `pcoa` of their distances answers, evaluated.
use mathlib.Core.Path.{◌≡◌, refl}
use mathlib.Core.List.{[], ◌∷◌, zip_with}
use lib.Ieee.{add, sub, mul, div, lt, eq, is_nan, of_bits, of_int, neg, odd, size}
use Rattle.float.specs.Order.{magnitude, signum}
use Rattle.square_root.specs.Root.{isqrt, root_of, root}
use Rattle.lists.specs.{Loops.in_turn, Loops.from_to, Ranges.up_from, Ranges.range, Ranges.table, Ranges.rows, Ranges.grid, Filters.filter, Filters.any}
use Rattle.lists.specs.{Sums.sum_from, Rows.entry, Rows.row, Rows.put_row, Rows.on_row}
use Rattle.outcome.specs.Outcome.{and_then}
use Rattle.lot.specs.Cases.{example, zeros}
use Rattle.eigen_rotations.specs.Rotation.{turn_entries, turn_columns, turn_rows, tangent, cosine, turn_pair, rotate}
use Rattle.eigen_rotations.specs.{Pairs.sweep_row, Pairs.sweep, Sweeps.squares_but, Sweeps.off_diagonal, Sweeps.sweeps_from}
use Rattle.eigen_rotations.specs.Diagonal.{unit, identity, diagonal}
use Rattle.eigen_jacobi.specs.Eigen.{eigenpairs, jacobi}
use Rattle.eigen_top.specs.{Leading.leading, TopEigs.top_eigs}
use Rattle.ordination_coordinates.specs.Centred.{squares, mean, row_means, centring, centred_at, centred}
use Rattle.ordination_coordinates.specs.Pcoa.{ordinate, pcoa}
use Rattle.exhaustive_hits.specs.Exhaustive.{coordinates}
use Rattle.cases.specs.Cases.{parts, halves}

-- of the example: one sweep of rotations
pub of-example : parts (λ c. 1 ∷ []) (coordinates (example [])) ≡ 1 ∷ []
unfolding coordinates pcoa ordinate centred centred_at centring row_means mean squares top_eigs leading and_then jacobi eigenpairs diagonal sweeps_from
    off_diagonal squares_but sweep sweep_row rotate tangent cosine turn_pair turn_rows turn_columns turn_entries identity unit entry row put_row on_row sum_from
    filter any zip_with grid rows table range up_from in_turn from_to magnitude signum root root_of isqrt is_nan lt eq add sub mul div neg of_bits of_int odd
    size
of-example = refl

-- of zeros: no sweep
pub of-zeros : parts (λ c. 1 ∷ []) (coordinates zeros) ≡ 1 ∷ []
unfolding coordinates pcoa ordinate centred centred_at centring row_means mean squares top_eigs leading and_then jacobi eigenpairs diagonal sweeps_from
    off_diagonal squares_but identity unit entry row sum_from filter any grid rows table range up_from is_nan lt add sub mul div neg of_bits of_int odd size
of-zeros = refl

pub of-sixteen : parts (λ c. 1 ∷ []) (coordinates (halves 8)) ≡ 1 ∷ []
unfolding coordinates pcoa ordinate centred centred_at centring row_means mean squares top_eigs leading and_then jacobi eigenpairs diagonal sweeps_from
    off_diagonal squares_but identity unit entry row sum_from filter any grid rows table range up_from is_nan lt add sub mul div neg of_bits of_int odd size
of-sixteen = refl
