-- What inner functions of the exhaustive test are asked. Statements only.
use Rattle.std.specs.Prelude.{◌≡◌, ℕ, false, ◌+◌, ◌*◌, ◌≤◌}
use Rattle.limits.specs.Limits.{judged_components, most_ways}
use Rattle.outcome.specs.Outcome as outcome
use Rattle.outcome.specs.Refusals.{first}
use Rattle.lot.specs.Lot.{Lot}
use Rattle.lot.specs.Lines.{test_lines}
use Rattle.lot_design.specs.declared.Design.{Design}
use Rattle.lot_design.specs.inner.Designs.{Describes}
use Rattle.exhaustive_ways.specs.Ways.{way_count}

-- a lot that lines 1 to 5 and 8 let pass, with its design and M
pub record Admits (lot : Lot) (d : Design) (ways : ℕ) : Type 0 where
  pub described : Describes lot d
  pub passed : first (test_lines lot false false) ≡ outcome.passed
  pub many : ways ≡ way_count lot
  pub few : ways ≤ most_ways

-- slices of these lengths, once the coordinates of n samples stand in `coords`
pub record Running (n coords counts means pair_terms weighted_squares label_counts scores : ℕ) : Type 0 where
  pub coords_room : judged_components + judged_components + judged_components * n ≤ coords
  pub counts_room : n ≤ counts
  pub means_room : n ≤ means
  pub pair_terms_room : n * n ≤ pair_terms
  pub weighted_squares_room : n * n ≤ weighted_squares
  pub label_counts_room : n * n ≤ label_counts
  pub scores_room : n + n * n ≤ scores
