-- The coordinates of n samples in a lent slice, and what the ordination tells of them. Definitions and statements only.
use Rattle.std.specs.Prelude.{◌≡◌, List, ℕ, ◌+◌, ◌*◌, ◌≤◌, length, take, drop, Float, Result, Ok, Err}
use Rattle.limits.specs.Limits.{judged_components, most_samples}
use Rattle.outcome.specs.declared.Refusal.{Refusal}
use Rattle.outcome.specs.Numbers.{number}
use Rattle.outcome.specs.Outcome.{Outcome, answered, refused}
use Rattle.ordination_coordinates.specs.Finish.{Coordinates}
use Rattle.exhaustive_hits.specs.Assignments.{columns_of}

-- where they stand: after as many values and shares as there are columns
abbrev pub coords_in : ℕ → List Float → List Float
coords_in n l = let k = columns_of n in take (n * k) (drop (k + k) l)

-- what is told of them by a return and a slice, and by the ordination
abbrev pub coords_told : ℕ → Result Unit Refusal → List Float → Outcome (List Float)
coords_told n (Ok _) l = answered (coords_in n l)
coords_told n (Err r) l = refused (number r)

unfoldable pub coords_of : Outcome Coordinates → Outcome (List Float)
coords_of (answered c) = answered c.coords
coords_of (refused r) = refused r

-- n by n distances, and slices of these lengths
pub record Ordinating (n : ℕ) (distances : List Float) (coords pair_terms weighted_squares eigenpairs vectors : ℕ) : Type 0 where
  pub fits : length distances ≡ n * n
  pub few : n ≤ most_samples
  pub coords_room : judged_components + judged_components + judged_components * n ≤ coords
  pub pair_terms_room : n * n ≤ pair_terms
  pub weighted_squares_room : n * n ≤ weighted_squares
  pub eigenpairs_room : n + n * n ≤ eigenpairs
  pub vectors_room : n * n ≤ vectors
