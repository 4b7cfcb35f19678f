-- Section 5: means of all samples and of groups (Jombart 2010). Definitions only.
-- x are the coordinates, rows of `columns`; groups has the group of each sample, or none; g is the number of groups; p leading columns are used.
use Rattle.std.specs.Prelude.{ℕ, not, List, map, length, Float}
use Rattle.float.specs.Floats.{◌⊘◌, num}
use Rattle.lists.specs.Ranges.{range, table, grid}
use Rattle.lists.specs.Filters.{filter}
use Rattle.lists.specs.Numbers.{in_group, members}
use Rattle.lists.specs.Sums.{sum⁺, sum⁻}
use Rattle.lists.specs.Rows.{entry}
use Rattle.limits.specs.Limits.{none}

-- the samples that have a group
unfoldable pub grouped : List ℕ → List ℕ
grouped groups = filter (λ i. not (in_group groups none i)) (range 0 (length groups))

unfoldable pub overall_mean : ℕ → List Float → List ℕ → ℕ → Float
overall_mean columns x mem c = sum⁻ (map (λ i. entry columns x i c) mem) ⊘ num (length mem)

unfoldable pub column_mean : ℕ → List Float → List ℕ → ℕ → Float
column_mean columns x mem c = sum⁺ (map (λ i. entry columns x i c) mem) ⊘ num (length mem)

-- the mean of each column, and that of each group, rows of p
unfoldable pub mean_of : ℕ → ℕ → List Float → List ℕ → List Float
mean_of columns p x groups = table p (overall_mean columns x (grouped groups))

unfoldable pub group_means : ℕ → ℕ → List Float → List ℕ → ℕ → List Float
group_means columns p x groups g = grid g p (λ j c. column_mean columns x (members groups (length groups) j) c)
