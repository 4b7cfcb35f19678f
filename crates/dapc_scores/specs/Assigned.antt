-- Section 5: the nearest centroid of each sample, and the right count. Definitions only.
-- Scores are rows of `axes`, one for each sample; cen has the centroids, rows of `axes`.
use Rattle.std.specs.Prelude.{ℕ, Bool, cond, List, eqb, length, get_or, Float}
use Rattle.std.specs.Float.{nan}
use Rattle.std.specs.Float.Ieee.{lt, is_nan}
use Rattle.float.specs.Floats.{◌⊖◌, ◌⊗◌}
use Rattle.lists.specs.Ranges.{table}
use Rattle.lists.specs.Loops.{in_turn}
use Rattle.lists.specs.Filters.{count_if, any}
use Rattle.lists.specs.Numbers.{in_group}
use Rattle.lists.specs.Sums.{sum⁻}
use Rattle.lists.specs.Rows.{entry}
use Rattle.limits.specs.Limits.{none}
use Rattle.dapc_scatter.specs.Means.{grouped}

-- the squared distance of a sample to a centroid, and to each of g
unfoldable pub gap : ℕ → List Float → List Float → ℕ → ℕ → Float
gap axes scores cen i j = sum⁻ (table axes (λ a. let d = entry axes scores i a ⊖ entry axes cen j a in d ⊗ d))

unfoldable pub gaps : ℕ → ℕ → List Float → List Float → ℕ → List Float
gaps axes g scores cen i = table g (gap axes scores cen i)

-- the nearest group; ties go to the lower
unfoldable pub nearest_of : List Float → ℕ
nearest_of ds = in_turn (λ j best. cond (lt (get_or ds j nan) (get_or ds best nan)) j best) (length ds) 0

-- the nearest group of each of n samples, or none
unfoldable pub assigned_of : ℕ → ℕ → ℕ → List ℕ → List Float → List Float → List ℕ
assigned_of n axes g groups scores cen = table n (λ i. cond (in_group groups none i) none (nearest_of (gaps axes g scores cen i)))

-- a NaN among the distances of a sample that has a group
unfoldable pub unordered : ℕ → ℕ → List ℕ → List Float → List Float → Bool
unordered axes g groups scores cen = any (λ i. any is_nan (gaps axes g scores cen i)) (grouped groups)

-- how many samples that have a group were found to be in it
unfoldable pub right_of : List ℕ → List ℕ → ℕ
right_of groups found = count_if (λ i. eqb (get_or found i 0) (get_or groups i 0)) (grouped groups)
