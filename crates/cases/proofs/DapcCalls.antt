-- Judged samples of the trade: (l) through calls of `dapc`.
use mathlib.Core.Path.{refl}
use mathlib.Core.List.{zip_with}
use lib.Ieee.{add, sub, mul, div, lt, le, eq, is_nan, of_bits, of_int, neg, odd, size}
use Rattle.float.specs.Order.{magnitude, signum, larger}
use Rattle.square_root.specs.Root.{isqrt, root_of, root}
use Rattle.lists.specs.{Loops.in_turn, Loops.from_to, Loops.down_to, Ranges.up_from, Ranges.range, Ranges.table, Ranges.rows, Ranges.grid}
use Rattle.lists.specs.Filters.{filter, count_if, any, first_at}
use Rattle.lists.specs.{Numbers.how_many, Numbers.contains, Numbers.position, Numbers.insert_up, Numbers.upward, Numbers.members, Sums.sum_from}
use Rattle.lists.specs.{Rows.entry, Rows.row, Rows.put_row, Rows.on_row, Writes.over}
use Rattle.outcome.specs.{Refusals.first, Refusals.short, Outcome.and_then, Slices.output}
use Rattle.lot.specs.Kept.{twice, kept, gathered, kept_labels, group_labels, group_each, kept_count, group_count}
use Rattle.eigen_rotations.specs.Rotation.{turn_entries, turn_columns, turn_rows, tangent, cosine, turn_pair, rotate}
use Rattle.eigen_rotations.specs.{Pairs.sweep_row, Pairs.sweep, Sweeps.squares_but, Sweeps.off_diagonal, Sweeps.sweeps_from}
use Rattle.eigen_rotations.specs.Diagonal.{unit, identity, diagonal}
use Rattle.eigen_jacobi.specs.Descending.{insert_at, insert_down, descending, values_in, vectors_in}
use Rattle.eigen_jacobi.specs.Eigen.{eigenpairs, jacobi}
use Rattle.eigen_matrix.specs.{Trace.trace, Symmetric.symmetrised}
use Rattle.dapc_scatter.specs.{Means.grouped, Means.overall_mean, Means.column_mean, Means.mean_of, Means.group_means, Ridge.ridge, Ridge.ridged}
use Rattle.dapc_scatter.specs.Scatter.{scatter_within, scatter_between}
use Rattle.dapc_cholesky.specs.Triangular.{lower_at, solve_lower, upper_at, solve_upper, solve_rows, solve_columns}
use Rattle.dapc_cholesky.specs.{Whitened.whitened, Cholesky.reduced, Cholesky.chol_entry, Cholesky.chol_row, Cholesky.factor, Cholesky.pivot_fails}
use Rattle.dapc_scores.specs.Assigned.{gap, gaps, nearest_of, assigned_of, unordered, right_of}
use Rattle.dapc_scores.specs.Scores.{scores_of, centroids}
use Rattle.dapc_discriminant.specs.Dapc.{columns_used, axes_of, concluded, assign, separated, discriminate, dapc}
use Rattle.dapc_discriminant.specs.Outputs.{leaves}
use Rattle.dapc.specs.{DapcLines.misfits, DapcLines.shape_lines, DapcLines.group_lines, DapcLines.dapc_lines, Call.call_by, Call.dapc_call}
use Rattle.cases.specs.Cases.{Holds, l-nine, l-passes}

-- m = 4, g = 2: 9, and the outputs as they were
pub case-l-nine : Holds l-nine
unfolding dapc_call call_by leaves and_then output first dapc_lines shape_lines group_lines misfits short any le neg of_bits of_int odd size columns_used
    kept_count group_count group_labels kept_labels gathered kept twice how_many count_if filter range up_from upward insert_up
case-l-nine = refl

-- m = 5 with 2 columns passes: one axis, and each sample in its own group
pub case-l-passes : Holds l-passes
unfolding dapc_call call_by leaves and_then output over first dapc_lines shape_lines group_lines misfits short any columns_used axes_of dapc discriminate
    separated assign concluded scores_of centroids gap gaps nearest_of assigned_of unordered right_of reduced chol_entry chol_row factor pivot_fails whitened
    symmetrised lower_at solve_lower upper_at solve_upper solve_rows solve_columns scatter_within scatter_between ridge ridged trace grouped overall_mean
    column_mean mean_of group_means jacobi eigenpairs values_in vectors_in descending insert_down insert_at diagonal identity unit sweeps_from off_diagonal
    squares_but sweep sweep_row rotate tangent cosine turn_pair turn_rows turn_columns turn_entries entry row put_row on_row sum_from filter first_at zip_with
    grid rows table range up_from in_turn from_to down_to magnitude signum larger root root_of isqrt is_nan lt le eq add sub mul div neg of_bits of_int odd
    size group_each kept_count group_count group_labels kept_labels gathered kept twice how_many count_if members contains position upward insert_up
case-l-passes = refl
