-- Section 8: the hits of n shuffles. Definitions only.
use Rattle.std.specs.Prelude.{ℕ, List, Float}
use Rattle.lists.specs.Ranges.{range}
use Rattle.lists.specs.Filters.{count_if}
use Rattle.permanova_p_values.specs.Hits.{statistic, shuffle_hit}
use Rattle.shuffle.specs.Shuffled.{shuffled}

-- how many of n shuffles have an F that is a hit of the observed
unfoldable pub hits_of : (List ℕ → Float) → List (List ℕ) → List ℕ → ℕ → ℕ → ℕ
hits_of f strata lab seed n = let o = statistic (f lab) in count_if (λ t. shuffle_hit o (f (shuffled strata lab seed t))) (range 0 n)
