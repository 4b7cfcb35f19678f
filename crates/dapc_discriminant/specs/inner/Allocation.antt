-- Section 5: what is asked on the way from the eigenpairs to the groups. Statements only. `out` and `assigned` are the lengths of the outputs.
use Rattle.std.specs.Prelude.{ℕ, ◌+◌, ◌*◌, ◌≤◌, ◌≡◌, List, length, replicate, Float}
use Rattle.float.specs.Floats.{zero⁺}
use Rattle.lot.specs.Kept.{sizes}
use Rattle.dapc_scatter.specs.declared.samples.Samples.{Samples}
use Rattle.dapc_discriminant.specs.Dapc.{axes_of}

-- outputs for the scores and the groups of the samples
pub record Fitting (s : Samples) (out assigned : ℕ) : Type 0 where
  pub axial : s.sizes.axes ≡ axes_of s.sizes.groups s.sizes.lead
  pub room : s.sizes.axes + length s.groups.now * s.sizes.axes ≤ out
  pub places : length s.groups.now ≤ assigned

-- room for the scores of the samples and for a row, values ev, directions vs, means
pub record Scoring (s : Samples) (out : ℕ) (line ev vs mean : List Float) : Type 0 where
  pub room : s.sizes.axes + length s.groups.now * s.sizes.axes ≤ out
  pub row : length line ≡ s.sizes.lead
  pub values : s.sizes.axes ≤ length ev
  pub directions : length vs ≡ s.sizes.axes * s.sizes.lead
  pub means : length mean ≡ s.sizes.lead

-- outputs for every sample, room for the centroids, and the counts of the groups
pub record Assigning (s : Samples) (out assigned : ℕ) (cen : List Float) (counts : List ℕ) : Type 0 where
  pub room : s.sizes.axes + length s.groups.now * s.sizes.axes ≤ out
  pub places : length s.groups.now ≤ assigned
  pub centroids : cen ≡ replicate (s.sizes.groups * s.sizes.axes) zero⁺
  pub counted : counts ≡ sizes s.groups.now (length s.groups.now) s.sizes.groups

-- eigenvalues with their vectors, the factor l, means and counts
pub record Allocating (s : Samples) (out assigned : ℕ) (ev l mean : List Float) (counts : List ℕ) : Type 0 where
  pub fitting : Fitting s out assigned
  pub pairs : length ev ≡ s.sizes.lead + s.sizes.lead * s.sizes.lead
  pub factor : length l ≡ s.sizes.lead * s.sizes.lead
  pub means : length mean ≡ s.sizes.lead
  pub counted : counts ≡ sizes s.groups.now (length s.groups.now) s.sizes.groups
