-- What inner functions of `dapc` are asked and leave. Definitions and statements only.
use Rattle.std.specs.Prelude.{◌≡◌, List, ℕ, ◌+◌, ◌*◌, ◌≤◌, length, Float}
use Rattle.limits.specs.Limits.{most_columns, most_samples}
use Rattle.lists.specs.inner.Numbers.{Below}
use Rattle.lot_design.specs.inner.Groups.{placed}
use Rattle.lot_design.specs.declared.Design.{Design}
use Rattle.lot_design.specs.inner.Designs.{kept_of, groups_of}
use Rattle.dapc_scatter.specs.Means.{grouped}
use Rattle.dapc_discriminant.specs.Dapc.{columns_used, axes_of, discriminate}
use Rattle.dapc_discriminant.specs.Outputs.{Called, leaves}
use Rattle.dapc_discriminant.specs.inner.Outputs.{Ready}

-- what lines 1 to 3 tell of the lengths
pub record Sized (columns : ℕ) (x : List Float) (labels : List ℕ) (out assigned : ℕ) : Type 0 where
  pub coordinates : length x ≡ length labels * columns
  pub few : length labels ≤ most_samples
  pub narrow : columns ≤ most_columns
  pub room : columns + length labels * columns ≤ out
  pub places : length labels ≤ assigned

-- ---- by a design

-- the group of each sample, or none
abbrev pub each_of : Design → List ℕ
each_of d = placed d.n (kept_of d) (groups_of d)

-- how many columns lead
abbrev pub lead_of : ℕ → Design → ℕ
lead_of columns d = columns_used columns d.kept d.groups

-- what the scores leave
unfoldable pub scores_call : ℕ → List Float → Design → List Float → List ℕ → Called
scores_call columns x d out assigned =
    let p = lead_of columns d in
    leaves d.n p (axes_of d.groups p) (discriminate d.n columns p x (each_of d) d.groups) out assigned

-- a design whose samples can be scored, with outputs of these lengths
pub record Scorable (columns : ℕ) (x : List Float) (d : Design) (out assigned : ℕ) : Type 0 where
  pub few : d.n ≤ most_samples
  pub kept_few : d.kept ≤ most_samples
  pub samples : Below d.n (kept_of d)
  pub counted : d.kept ≡ length (grouped (each_of d))
  pub ready : Ready columns (lead_of columns d) (axes_of d.groups (lead_of columns d)) d.groups x (each_of d) out assigned
