-- Section 5: means and scatter together. Statements only.
use Rattle.std.specs.Prelude.{ℕ, ◌*◌, ◌≡◌, List, length, replicate, Float}
use Rattle.float.specs.Floats.{zero⁺, zero⁻}
use Rattle.lot.specs.Kept.{sizes}
use Rattle.dapc_scatter.specs.Means.{mean_of, group_means}
use Rattle.dapc_scatter.specs.Ridge.{ridged}
use Rattle.dapc_scatter.specs.Scatter.{scatter_within, scatter_between}
use Rattle.dapc_scatter.specs.declared.samples.Dimensions.{Dimensions}

-- the four that are filled, before
pub record Cleared (d : Dimensions) (mean : List Float) (counts : List ℕ) (sw sb : List Float) : Type 0 where
  pub means : mean ≡ replicate d.lead zero⁻
  pub counted : counts ≡ replicate d.groups 0
  pub within : sw ≡ replicate (d.lead * d.lead) zero⁺
  pub between : sb ≡ replicate (d.lead * d.lead) zero⁺

-- what there is to know of the samples before the matrix is factored
pub record Filled (d : Dimensions) (x : List Float) (each : List ℕ) (mean : List Float) (counts : List ℕ) (sw sb : List Float) : Type 0 where
  pub means : mean ≡ mean_of d.columns d.lead x each
  pub counted : counts ≡ sizes each (length each) d.groups
  pub within : sw ≡ ridged d.lead (scatter_within d.columns d.lead x each (group_means d.columns d.lead x each d.groups))
  pub between : sb ≡ scatter_between d.lead d.groups each (group_means d.columns d.lead x each d.groups) (mean_of d.columns d.lead x each)
