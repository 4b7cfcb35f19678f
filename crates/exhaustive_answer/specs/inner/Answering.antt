-- What is asked of a lot that is judged on given coordinates, and what is answered. Statements only.
use Rattle.std.specs.Prelude.{◌≡◌, List, ℕ, ◌+◌, ◌*◌, ◌≤◌, length, Float}
use Rattle.limits.specs.Limits.{most_samples, most_ways}
use Rattle.lot.specs.Lot.{Lot}
use Rattle.lot.specs.Kept.{group_count}
use Rattle.lot_design.specs.declared.Design.{Design}
use Rattle.permanova_statistics.specs.inner.Observation.{Weighs, Listed}
use Rattle.exhaustive_ways.specs.Ways.{way_count}
use Rattle.exhaustive_hits.specs.Assignments.{columns_of}
use Rattle.exhaustive_hits.specs.declared.judgement.Judgement.{Judgement}
use Rattle.exhaustive_hits.specs.Exhaustive.{judgement}

-- a design, weighted squares, terms and weights are those of a lot with a label for each sample
pub record Owns (lot : Lot) (d : Design) (p t w : List Float) : Type 0 where
  pub weighs : Weighs lot d p t w
  pub labelled : length lot.labels ≡ lot.n

-- they are those of some lot of at most 256 samples, with two groups and more and few ways; coordinates of its samples, and slices of these lengths for
-- label counts and scores
pub record Answerable (d : Design) (p t w x : List Float) (label_counts scores : ℕ) : Type 0 where
  pub lot : Lot
  pub owns : Owns lot d p t w
  pub few : lot.n ≤ most_samples
  pub two : 2 ≤ group_count lot.labels
  pub few_ways : way_count lot ≤ most_ways
  pub coordinates : length x ≡ d.n * columns_of d.n
  pub label_counts_room : d.kept * d.groups ≤ label_counts
  pub scores_room : d.n + d.n * d.n ≤ scores

-- with M, and outputs of these lengths
pub record Answering (d : Design) (ways : ℕ) (p t w x : List Float) (label_counts scores counts means : ℕ) : Type 0 where
  pub judgeable : Answerable d p t w x label_counts scores
  pub many : ways ≡ way_count judgeable.lot
  pub counts_room : d.groups ≤ counts
  pub means_room : d.groups ≤ means

-- the answer, and what the outputs hold
pub record Answers (lot : Lot) (x : List Float) (counts : List ℕ) (means : List Float) (counts' : List ℕ) (means' : List Float) (r : Judgement) : Type 0 where
  pub answer : r ≡ judgement lot x
  pub listed : Listed lot counts means counts' means'
