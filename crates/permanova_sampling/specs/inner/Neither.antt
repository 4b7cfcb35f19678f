-- Section 8: both p from the hits of both, and where there is neither, whatever the hits. Definitions only.
use Rattle.std.specs.Prelude.{ℕ, Bool, true, Float, Option}
use Rattle.permanova_p_values.specs.declared.Statistic.{Statistic}
use Rattle.permanova_p_values.specs.declared.Statistic.TheVariants.{Finite, Unbounded}
use Rattle.permanova_p_values.specs.declared.Both.{Both}
use Rattle.permanova_p_values.specs.PValues.{p_value}

-- both p, of n shuffles with these hits
unfoldable pub both : Bool → Both Statistic → Both ℕ → ℕ → Both (Option Float)
both none seen hits n = record { location = p_value none seen.location hits.location n; dispersion = p_value none seen.dispersion hits.dispersion n }

-- strata are given and none informs, or both F's are unbounded
unfoldable pub neither : Bool → Statistic → Statistic → Bool
neither none (Finite f) (Finite g) = none
neither none (Finite f) Unbounded = none
neither none Unbounded (Finite g) = none
neither none Unbounded Unbounded = true
