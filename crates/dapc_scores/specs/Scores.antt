-- Section 5: scores on the axes, and the groups' centroids. Definitions only.
-- Scores are rows of `axes`, one for each sample; vs has the directions, rows of p.
use Rattle.std.specs.Prelude.{ℕ, List, map, length, get_or, Float}
use Rattle.std.specs.Float.{nan}
use Rattle.float.specs.Floats.{◌⊖◌, ◌⊗◌, ◌⊘◌, num}
use Rattle.lists.specs.Ranges.{table, grid}
use Rattle.lists.specs.Numbers.{members}
use Rattle.lists.specs.Sums.{sum⁺, sum⁻}
use Rattle.lists.specs.Rows.{entry}

-- the scores: (coordinate - mean)·direction, summed over the columns
unfoldable pub scores_of : ℕ → ℕ → ℕ → ℕ → List Float → List Float → List Float → List Float
scores_of n columns p axes x mean vs = grid n axes (λ i a. sum⁻ (table p (λ c. (entry columns x i c ⊖ get_or mean c nan) ⊗ entry p vs a c)))

-- the centroid of each group: each member's score divided by the count, then added
unfoldable pub centroids : ℕ → ℕ → List ℕ → List Float → List Float
centroids axes g groups scores =
    grid g axes (λ j a. let mem = members groups (length groups) j in sum⁺ (map (λ i. entry axes scores i a ⊘ num (length mem)) mem))
