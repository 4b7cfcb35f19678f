-- What the test of a lot is made from, and what it leaves. Statements only.
use Rattle.std.specs.Prelude.{◌≡◌, Bool, List, ℕ, ◌≤◌, Float, Option}
use Rattle.limits.specs.Limits.{most_shuffles}
use Rattle.lot.specs.Lot.{Lot}
use Rattle.lot.specs.Kept.{groups}
use Rattle.permanova_sums.specs.Squares.{weights_of, pair_terms_of}
use Rattle.permanova_statistics.specs.Statistics.{z_of}
use Rattle.permanova_statistics.specs.Warnings.{sizes_of}
use Rattle.lot_design.specs.declared.Design.{Design}
use Rattle.lot_design.specs.inner.Designs.{Describes}
use Rattle.permanova_statistics.specs.declared.observation.Observed.{Observed}
use Rattle.permanova_statistics.specs.inner.Observed.{observed_of}
use Rattle.permanova_statistics.specs.inner.Observation.{Weighed, Weighs, Listed}
use Rattle.permanova_sampling.specs.declared.hits.Draws.{Draws}
use Rattle.permanova_p_values.specs.declared.Both.{Both}
use Rattle.permanova_sampling.specs.declared.TestResult.{TestResult}
use Rattle.permanova_sampling.specs.Tested.{tested}
use Rattle.permanova_sampling.specs.inner.Tested.{p_values_of}

-- weighted squares, terms and weights of a design's samples, shuffles within the limit, and outputs of these lengths with room for its groups
pub record Measuring (d : Design) (p t w : List Float) (draws : Draws) (counts means : ℕ) : Type 0 where
  pub weighed : Weighed d p t w
  pub shuffles : draws.many ≤ most_shuffles
  pub counts_room : d.groups ≤ counts
  pub means_room : d.groups ≤ means

-- o and z were observed of the lot that d describes, over its terms t and weights w
pub record Seen (lot : Lot) (d : Design) (t w z : List Float) (o : Observed) : Type 0 where
  pub described : Describes lot d
  pub pair_terms : t ≡ pair_terms_of lot
  pub weights : w ≡ weights_of lot
  pub distances : z ≡ z_of lot (groups lot.labels)
  pub observed : o ≡ observed_of lot

-- o was observed of the lot that d describes, weighted or not; its groups have these sizes, and both p are c
pub record Concludes (lot : Lot) (seed n : ℕ) (d : Design) (weighted : Bool) (o : Observed) (counts : List ℕ) (c : Both (Option Float)) : Type 0 where
  pub described : Describes lot d
  pub weighted_as : lot.weighted ≡ weighted
  pub observed : o ≡ observed_of lot
  pub sizes : counts ≡ sizes_of lot
  pub p_values : c ≡ p_values_of lot seed n

-- p, t and w are of the lot that d describes, which is weighted or not
pub record Measures (lot : Lot) (d : Design) (weighted : Bool) (p t w : List Float) : Type 0 where
  pub weighs : Weighs lot d p t w
  pub weighted_as : lot.weighted ≡ weighted

-- what is answered for a lot, and what the outputs hold
pub record Answers (lot : Lot) (draws : Draws) (counts : List ℕ) (means : List Float) (counts' : List ℕ) (means' : List Float) (r : TestResult) : Type 0 where
  pub result : r ≡ tested lot draws.seed draws.many
  pub listed : Listed lot counts means counts' means'
