-- Both p of a lot together. Definitions only.
use Rattle.std.specs.Prelude.{ℕ, Float, Option}
use Rattle.lot.specs.Lot.{Lot}
use Rattle.permanova_p_values.specs.declared.Both.{Both}
use Rattle.permanova_sampling.specs.Sampled.{location_pvalue, dispersion_pvalue}

-- both p, from this seed and this many shuffles
unfoldable pub p_values_of : Lot → ℕ → ℕ → Both (Option Float)
p_values_of lot seed n = record { location = location_pvalue lot seed n; dispersion = dispersion_pvalue lot seed n }
