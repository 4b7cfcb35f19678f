-- Section 5: what is asked on the way from the scatter to the scores. Statements only.
use Rattle.std.specs.Prelude.{ℕ, ◌+◌, ◌*◌, ◌≤◌, ◌≡◌, List, length, Float}
use Rattle.limits.specs.Limits.{most_columns}
use Rattle.lot.specs.Kept.{sizes}
use Rattle.dapc_scatter.specs.declared.samples.Samples.{Samples}
use Rattle.dapc_discriminant.specs.inner.Allocation.{Fitting}

-- room for p eigenvalues with their vectors, the factor l, the scatter sb between groups
pub record Pairing (p : ℕ) (ev l sb : List Float) : Type 0 where
  pub pairs : length ev ≡ p + p * p
  pub factor : length l ≡ p * p
  pub between : length sb ≡ p * p
  pub narrow : p ≤ most_columns

-- means, counts, the scatter a within groups and sb between them, with outputs of these lengths
pub record Decomposing (s : Samples) (out assigned : ℕ) (mean : List Float) (counts : List ℕ) (a sb : List Float) : Type 0 where
  pub fitting : Fitting s out assigned
  pub means : length mean ≡ s.sizes.lead
  pub counted : counts ≡ sizes s.groups.now (length s.groups.now) s.sizes.groups
  pub within : length a ≡ s.sizes.lead * s.sizes.lead
  pub between : length sb ≡ s.sizes.lead * s.sizes.lead
