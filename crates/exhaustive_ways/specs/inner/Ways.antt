-- M as it is counted, up to the limit of line 8. Definitions only.
use Rattle.std.specs.Prelude.{ℕ, ◌+◌, cond, ltb}
use Rattle.limits.specs.Limits.{most_ways}

-- M, or 20,001 where it is above 20,000
unfoldable pub capped : ℕ → ℕ
capped m = cond (ltb most_ways m) (most_ways + 1) m
