-- Section 3 (Anderson 2006): each sample's distance z to its group's centroid, from the squares alone. Definitions only.
-- t are the terms and p the weighted squares of m kept samples, row by row, w their weights, lab their groups, mem a group's members.
use Rattle.std.specs.Prelude.{ℕ, Bool, List, map, get_or, Float}
use Rattle.std.specs.Float.Ieee.{lt}
use Rattle.float.specs.Floats.{◌⊖◌, ◌⊗◌, ◌⊘◌, zero⁺, 2·0}
use Rattle.float.specs.Order.{larger}
use Rattle.square_root.specs.Root.{root}
use Rattle.lists.specs.Ranges.{table}
use Rattle.lists.specs.Filters.{any, ordered_pairs}
use Rattle.lists.specs.Numbers.{members}
use Rattle.lists.specs.Sums.{sum⁻, sum⁺}
use Rattle.lists.specs.Rows.{entry}
use Rattle.permanova_location.specs.Location.{group_weight}

-- "Inside" is the sum over all ordered pairs of weight·weight·square.
unfoldable pub inside : List Float → ℕ → List ℕ → Float
inside t m mem = sum⁺ (ordered_pairs (entry m t) mem mem)

-- the sum of weight·square to members, seen from a
unfoldable pub weighted_square_sum : List Float → ℕ → List ℕ → ℕ → Float
weighted_square_sum p m mem a = sum⁻ (map (entry m p a) mem)

-- A member's value is (sum of weight·square to members)/s - inside/(2·s·s), s being the group's weight sum.
unfoldable pub value_of : Float → Float → Float → Float
value_of weighted_squares s ins = weighted_squares ⊘ s ⊖ ins ⊘ (2·0 ⊗ s ⊗ s)

unfoldable pub value : List Float → List Float → List Float → ℕ → List ℕ → ℕ → Float
value p t w m mem a = value_of (weighted_square_sum p m mem a) (group_weight w mem) (inside t m mem)

-- every sample's value in its own group
unfoldable pub values : List Float → List Float → List Float → List ℕ → ℕ → List Float
values p t w lab m = table m (λ a. value p t w m (members lab m (get_or lab a 0)) a)

-- z is the root of the larger of the value and 0
unfoldable pub distance_of : Float → Float
distance_of v = root (larger v zero⁺)

-- some value is below 0
abbrev pub negative : Float → Bool
negative v = lt v zero⁺

unfoldable pub z_of : List Float → List Float → List Float → List ℕ → ℕ → List Float
z_of p t w lab m = map distance_of (values p t w lab m)

unfoldable pub some_negative : List Float → List Float → List Float → List ℕ → ℕ → Bool
some_negative p t w lab m = any negative (values p t w lab m)
