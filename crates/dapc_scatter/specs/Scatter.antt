-- Section 5: the scatter within and between groups, p by p (Jombart 2010). Definitions only.
-- x are the coordinates, rows of `columns`; groups has the group of each sample, or none; g is the number of groups; p leading columns are used.
use Rattle.std.specs.Prelude.{ℕ, List, map, length, get_or, Float}
use Rattle.std.specs.Float.{nan}
use Rattle.float.specs.Floats.{◌⊖◌, ◌⊗◌, num}
use Rattle.lists.specs.Ranges.{table, grid}
use Rattle.lists.specs.Numbers.{members}
use Rattle.lists.specs.Sums.{sum⁺}
use Rattle.lists.specs.Rows.{entry}
use Rattle.dapc_scatter.specs.Means.{grouped}

-- how far sample i is in column a from its group's mean; mu are the group means
abbrev pub off : ℕ → ℕ → List Float → List ℕ → List Float → ℕ → ℕ → Float
off columns p x groups mu i a = entry columns x i a ⊖ entry p mu (get_or groups i 0) a

-- and group j from the mean of all
abbrev pub group_off : ℕ → List Float → List Float → ℕ → ℕ → Float
group_off p mu mean j a = entry p mu j a ⊖ get_or mean a nan

-- within groups, sample by sample
unfoldable pub scatter_within : ℕ → ℕ → List Float → List ℕ → List Float → List Float
scatter_within columns p x groups mu = grid p p (λ a b. sum⁺ (map (λ i. off columns p x groups mu i a ⊗ off columns p x groups mu i b) (grouped groups)))

-- between groups, group by group
unfoldable pub scatter_between : ℕ → ℕ → List ℕ → List Float → List Float → List Float
scatter_between p g groups mu mean =
    grid p p (λ a b. sum⁺ (table g (λ j. num (length (members groups (length groups) j)) ⊗ group_off p mu mean j a ⊗ group_off p mu mean j b)))
