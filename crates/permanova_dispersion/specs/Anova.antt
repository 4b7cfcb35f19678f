-- Section 3: the F of z is the one-way ANOVA of `anova_f`, unweighted. Definitions only.
-- z has one entry for each of m samples, lab their groups, g the number of groups.
use Rattle.std.specs.Prelude.{ℕ, max, List, map, length, get_or, Float}
use Rattle.float.specs.Floats.{◌⊖◌, ◌⊗◌, ◌⊘◌, num}
use Rattle.lists.specs.Ranges.{table}
use Rattle.lists.specs.Numbers.{members}
use Rattle.lists.specs.Sums.{sum⁻, sum⁺}
use Rattle.permanova_sums.specs.PairSums.{at}
use Rattle.permanova_location.specs.Location.{f_ratio}

-- the mean of all, added up from -0.0, and of a group, from 0.0; each divided by its count
unfoldable pub grand_mean : List Float → ℕ → Float
grand_mean z m = sum⁻ z ⊘ num m

unfoldable pub group_mean : List Float → List ℕ → Float
group_mean z mem = sum⁺ (map (at z) mem) ⊘ num (max (length mem) 1)

unfoldable pub group_means : List Float → List ℕ → ℕ → ℕ → List Float
group_means z lab m g = table g (λ j. group_mean z (members lab m j))

-- x times x
unfoldable pub squared : Float → Float
squared x = x ⊗ x

-- between groups: the sum of count · (mean - grand mean)²
unfoldable pub share : List ℕ → Float → Float → Float
share mem mean grand = num (length mem) ⊗ squared (mean ⊖ grand)

unfoldable pub between : List Float → List Float → List ℕ → ℕ → ℕ → Float
between z means lab m g = sum⁻ (table g (λ j. share (members lab m j) (at means j) (grand_mean z m)))

-- within them: the sum of (z - its group's mean)²
unfoldable pub residual_at : List Float → List Float → List ℕ → ℕ → Float
residual_at z means lab k = squared (at z k ⊖ at means (get_or lab k 0))

unfoldable pub residual : List Float → List Float → List ℕ → ℕ → Float
residual z means lab m = sum⁻ (table m (residual_at z means lab))

unfoldable pub anova_f : List Float → List ℕ → ℕ → ℕ → Float
anova_f z lab m g = let means = group_means z lab m g in f_ratio (between z means lab m g) (residual z means lab m) m g

-- each group's mean z, for the answer
unfoldable pub mean_of : List Float → List ℕ → Float
mean_of z mem = sum⁻ (map (at z) mem) ⊘ num (length mem)

unfoldable pub mean_z : List Float → List ℕ → ℕ → ℕ → List Float
mean_z z lab m g = table g (λ j. mean_of z (members lab m j))
