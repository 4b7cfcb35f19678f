-- Section 8: p, from the hits of n_perm shuffles. Definitions only.
use Rattle.std.specs.Prelude.{ℕ, ◌+◌, Bool, cond, Float, Option, Some, None}
use Rattle.float.specs.Floats.{◌⊘◌, num, zero⁺}
use Rattle.permanova_p_values.specs.declared.Statistic.{Statistic}
use Rattle.permanova_p_values.specs.declared.Statistic.TheVariants.{Finite, Unbounded}

-- p = (1 + hits)/(1 + n_perm). No p if strata are given and none informs, or if the observed F is not finite.
unfoldable pub p_value : Bool → Statistic → ℕ → ℕ → Option Float
p_value none Unbounded hits n = None
p_value none (Finite f) hits n = cond none None (Some (num (1 + hits) ⊘ num (1 + n)))

-- ---- the values of each case, as they are laid out

-- 1 where there is a p
abbrev pub given : Option Float → ℕ
given (Some p) = 1
given None = 0

-- the p, 0 where there is none
abbrev pub p_of : Option Float → Float
p_of (Some p) = p
p_of None = zero⁺
