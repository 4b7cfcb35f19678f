-- A way over plain lists of strata and labels. Statements only.
use Rattle.std.specs.Prelude.{◌≡◌, List, ℕ, length}
use Rattle.lot.specs.Way.{tally}

-- A way of the labels on samples of the strata ss: each stratum keeps its count of every label. `IsWay` is this for a lot.
pub record WayOf (ss labels way : List ℕ) : Type 0 where
  pub labels_all : length way ≡ length labels
  pub keeps_counts : (s j : ℕ) → tally ss way s j ≡ tally ss labels s j
