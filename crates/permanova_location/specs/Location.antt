-- Section 2 (Anderson 2001): total, within, F and r2. Definitions only.
-- t are the terms of m kept samples, row by row, w their weights, lab their groups, g the number of groups.
use Rattle.std.specs.Prelude.{ℕ, ◌-◌, cond, List, map, Float}
use Rattle.std.specs.Float.Ieee.{lt}
use Rattle.float.specs.Floats.{◌⊖◌, ◌⊘◌, num, zero⁺, smallest_normal}
use Rattle.float.specs.Order.{larger}
use Rattle.lists.specs.Ranges.{table}
use Rattle.lists.specs.Numbers.{members}
use Rattle.lists.specs.Sums.{sum⁻}
use Rattle.permanova_sums.specs.PairSums.{at, rows_sum, pair_sum}

-- Total is the sum over pairs, row by row, divided by the sum of weights.
unfoldable pub total : List Float → List Float → ℕ → Float
total t w m = rows_sum t m ⊘ sum⁻ w

-- of a group's members: the weight sum, and the pair sum divided by the larger of it and the smallest normal f64
unfoldable pub group_weight : List Float → List ℕ → Float
group_weight w mem = sum⁻ (map (at w) mem)

unfoldable pub group_within : List Float → List Float → ℕ → List ℕ → Float
group_within t w m mem = pair_sum t m mem ⊘ larger (group_weight w mem) smallest_normal

-- Within is the sum over groups.
unfoldable pub within : List Float → List Float → List ℕ → ℕ → ℕ → Float
within t w lab m g = sum⁻ (table g (λ j. group_within t w m (members lab m j)))

-- An F: what lies between groups over g - 1, divided by what lies within them over m - g. Both tests have this one.
unfoldable pub f_ratio : Float → Float → ℕ → ℕ → Float
f_ratio between within m g = (between ⊘ num (g - 1)) ⊘ (within ⊘ num (m - g))

-- F = ((total - within)/(g - 1)) / (within/(m - g))
unfoldable pub pseudo_f : Float → Float → ℕ → ℕ → Float
pseudo_f total within m g = f_ratio (total ⊖ within) within m g

-- r2 = (total - within)/total, or 0 if total is not above 0
unfoldable pub r_squared : Float → Float → Float
r_squared total within = cond (lt zero⁺ total) ((total ⊖ within) ⊘ total) zero⁺
