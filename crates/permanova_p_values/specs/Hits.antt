-- Sections 6 and 8: when the statistic of a way or a shuffle is a hit of the observed one. Definitions only.
use Rattle.std.specs.Prelude.{ℕ, Bool, true, false, cond, Float}
use Rattle.std.specs.Float.Ieee.Scale.{finite}
use Rattle.float.specs.Floats.{zero⁺}
use Rattle.float.specs.Tolerance.{as_large}
use Rattle.permanova_p_values.specs.declared.Statistic.{Statistic}
use Rattle.permanova_p_values.specs.declared.Statistic.TheVariants.{Finite, Unbounded}

-- A non-finite F is unbounded, above all others.
unfoldable pub statistic : Float → Statistic
statistic f = cond (finite f) (Finite f) Unbounded

-- Section 6. Hits of an unbounded F: the unbounded ways. Of a finite F: those, and the finite ways as large.
unfoldable pub hit : Statistic → Statistic → Bool
hit Unbounded Unbounded = true
hit Unbounded (Finite f') = false
hit (Finite f) Unbounded = true
hit (Finite f) (Finite f') = as_large f f'

-- Section 8. A hit is F of the shuffle >= F - 1e-12·|F|; an observed F that is not finite has none.
unfoldable pub shuffle_hit : Statistic → Float → Bool
shuffle_hit Unbounded f' = false
shuffle_hit (Finite f) f' = as_large f f'

-- ---- the values of each case, as they are printed and laid out

-- 1 for a finite F, 0 for an unbounded one
abbrev pub state_of : Statistic → ℕ
state_of (Finite f) = 1
state_of Unbounded = 0

-- F, 0 where it is unbounded
abbrev pub value_of : Statistic → Float
value_of (Finite f) = f
value_of Unbounded = zero⁺
