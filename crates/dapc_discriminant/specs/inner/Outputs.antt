-- What `discriminate` is asked, and its refusals with the outputs beside them. Definitions and statements only.
use Rattle.std.specs.Prelude.{ℕ, ◌+◌, ◌*◌, ◌≤◌, ◌≡◌, List, length, Float}
use Rattle.limits.specs.Limits.{most_columns, most_samples}
use Rattle.outcome.specs.Outcome.{refused}
use Rattle.dapc_scatter.specs.inner.Means.{Numbered}
use Rattle.dapc_discriminant.specs.Dapc.{axes_of}
use Rattle.dapc_discriminant.specs.Outputs.{Called}

-- a refusal, with outputs that hold these
abbrev pub refusal : ℕ → List Float → List ℕ → Called
refusal k out assigned = record { answer = refused k; out = out; assigned = assigned }

-- what `discriminate` asks of its arguments, with outputs of these lengths: p columns lead, and there are g groups.
pub record Ready (columns p axes g : ℕ) (x : List Float) (groups : List ℕ) (out assigned : ℕ) : Type 0 where
  pub coordinates : length x ≡ length groups * columns
  pub leads : p ≤ columns
  pub narrow : p ≤ most_columns
  pub two : 2 ≤ g
  pub most : g ≤ 128
  pub numbered : Numbered g groups
  pub few : length groups ≤ most_samples
  pub axial : axes ≡ axes_of g p
  pub room : axes + length groups * axes ≤ out
  pub places : length groups ≤ assigned
