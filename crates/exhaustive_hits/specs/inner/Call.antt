-- Lines 1 to 5 for a call of `exhaustive`, and slices that are long enough. Definitions and statements only.
use Rattle.std.specs.Prelude.{ℕ, ◌+◌, ◌*◌, ◌≤◌, false, length}
use Rattle.limits.specs.Limits.{judged_components}
use Rattle.outcome.specs.Refusals.{first}
use Rattle.outcome.specs.Outcome.{Told}
use Rattle.lot.specs.Lot.{Lot}
use Rattle.lot.specs.Lines.{test_lines}
use Rattle.exhaustive_hits.specs.Call.{Slices, too_short}

-- lines 1 to 5
unfoldable pub early : Lot → Slices → Told
early lot s = first (test_lines lot (too_short lot.n s) false)

-- slices that are long enough for n samples
pub record Long (n : ℕ) (s : Slices) : Type 0 where
  pub labels : n ≤ length s.labels
  pub counts : n ≤ length s.counts
  pub means : n ≤ length s.means
  pub pair_terms : n * n ≤ length s.pair_terms
  pub weighted_squares : n * n ≤ length s.weighted_squares
  pub coords : judged_components + judged_components + judged_components * n ≤ length s.coords
  pub eigenpairs : n + n * n ≤ length s.eigenpairs
  pub vectors : n * n ≤ length s.vectors
  pub label_counts : n * n ≤ length s.label_counts
