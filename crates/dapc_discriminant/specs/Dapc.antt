-- Section 5: discriminant scores (Jombart 2010), `dapc`. Definitions only.
-- x are the coordinates, rows of `columns`; groups has the group of each of the n samples, or none; g is the number of groups.
use Rattle.std.specs.Prelude.{ℕ, ◌+◌, ◌-◌, min, true, false, List, length, get_or, Float}
use Rattle.std.specs.Float.{nan}
use Rattle.lists.specs.Ranges.{table}
use Rattle.outcome.specs.Outcome.{Outcome, answered, refused, and_then}
use Rattle.dapc_scatter.specs.Means.{grouped, mean_of, group_means}
use Rattle.dapc_scatter.specs.Ridge.{ridged}
use Rattle.dapc_scatter.specs.Scatter.{scatter_within, scatter_between}
use Rattle.dapc_cholesky.specs.Triangular.{solve_rows}
use Rattle.dapc_cholesky.specs.Whitened.{whitened}
use Rattle.dapc_cholesky.specs.Cholesky.{factor, pivot_fails}
use Rattle.eigen_jacobi.specs.Eigen.{jacobi}
use Rattle.dapc_scores.specs.Assigned.{assigned_of, unordered, right_of}
use Rattle.dapc_scores.specs.Scores.{scores_of, centroids}

-- p, the leading columns used, and the number of axes
unfoldable pub columns_used : ℕ → ℕ → ℕ → ℕ
columns_used columns m g = min columns (m - (g + 1))

unfoldable pub axes_of : ℕ → ℕ → ℕ
axes_of g p = min (g - 1) p

-- one value per axis, scores n by axes, the nearest group of each sample or none, and the right count
pub record Scores : Type 0 where
  pub values : List Float
  pub scores : List Float
  pub assigned : List ℕ
  pub right : ℕ

-- the groups found by the scores; a NaN among the distances of a sample that has a group is 11
unfoldable pub concluded : ℕ → ℕ → ℕ → List ℕ → List Float → List Float → Outcome Scores
concluded n axes g groups values scores =
    let cen = centroids axes g groups scores in
    let found = assigned_of n axes g groups scores cen in
    elim (unordered axes g groups scores cen) as (λ b. Outcome Scores) [
      | true ↦ refused 11
      | false ↦ answered (record { values = values; scores = scores; assigned = found; right = right_of groups found })
    ]

-- the last steps, from the factor l and the eigenpairs of `whitened`
unfoldable pub assign : ℕ → ℕ → ℕ → ℕ → List Float → List ℕ → List Float → List Float → List Float → List Float → Outcome Scores
assign n columns p g x groups mean l values vectors =
    let axes = axes_of g p in
    concluded n axes g groups (table axes (λ a. get_or values a nan)) (scores_of n columns p axes x mean (solve_rows axes p l vectors))

-- from the means, the scatter a within groups with its ridge, and the scatter sb between them; a pivot not above 0 is 10
unfoldable pub separated : ℕ → ℕ → ℕ → ℕ → List Float → List ℕ → List Float → List Float → List Float → Outcome Scores
separated n columns p g x groups mean a sb =
    let l = factor p a in
    elim (pivot_fails p a l) as (λ b. Outcome Scores) [
      | true ↦ refused 10
      | false ↦ and_then (jacobi p (whitened p l sb)) (λ e. assign n columns p g x groups mean l e.values e.vectors)
    ]

-- on p leading columns
unfoldable pub discriminate : ℕ → ℕ → ℕ → List Float → List ℕ → ℕ → Outcome Scores
discriminate n columns p x groups g =
    let mean = mean_of columns p x groups in
    let mu = group_means columns p x groups g in
    separated n columns p g x groups mean (ridged p (scatter_within columns p x groups mu)) (scatter_between p g groups mu mean)

-- `dapc`, on p leading columns, p at least 2
unfoldable pub dapc : ℕ → ℕ → List Float → List ℕ → ℕ → Outcome Scores
dapc n columns x groups g = discriminate n columns (columns_used columns (length (grouped groups)) g) x groups g
