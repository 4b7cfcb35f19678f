-- The test of the lot that a design describes: what it is asked, and what it leaves. Statements only.
use Rattle.std.specs.Prelude.{◌≡◌, ◌≤◌, length}
use Rattle.limits.specs.Limits.{most_samples, most_shuffles}
use Rattle.float.specs.Floats.{zero⁺}
use Rattle.lists.specs.Writes.{cleared}
use Rattle.lot.specs.Lot.{Lot}
use Rattle.lot_design.specs.declared.Design.{Design}
use Rattle.lot_design.specs.inner.Designs.{Describes}
use Rattle.permanova_statistics.specs.inner.Observation.{Weighing}
use Rattle.permanova_sampling.specs.declared.hits.Draws.{Draws}
use Rattle.permanova_sampling.specs.declared.TestResult.{TestResult}
use Rattle.permanova_sampling.specs.inner.Measurement.{Answers}
use Rattle.permanova.specs.Call.{Slices}

-- the design of a lot, to weigh, shuffles within the limit, and room
pub record Runs (d : Design) (lot : Lot) (draws : Draws) (lent : Slices) : Type 0 where
  pub described : Describes lot d
  pub all : d.n ≡ lot.n
  pub weighing : Weighing d lot.distances lot.weighted lot.weights most_samples (length lent.pair_terms) (length lent.weighted_squares)
  pub shuffles : draws.many ≤ most_shuffles
  pub counts_room : d.groups ≤ length lent.counts
  pub means_room : d.groups ≤ length lent.means

-- the answer, each group's size and mean z, and work that is cleared
pub record Ran (lot : Lot) (draws : Draws) (before after : Slices) (r : TestResult) : Type 0 where
  pub answers : Answers lot draws before.counts before.means after.counts after.means r
  pub pair_terms : after.pair_terms ≡ cleared zero⁺ before.pair_terms
  pub weighted_squares : after.weighted_squares ≡ cleared zero⁺ before.weighted_squares
