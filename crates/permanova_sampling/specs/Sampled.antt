-- Section 8: p of a lot, from the hits of n_perm shuffles within strata. Definitions only.
use Rattle.std.specs.Prelude.{ℕ, List, Float, Option}
use Rattle.lot.specs.Lot.{Lot}
use Rattle.lot.specs.Kept.{groups, kept_count}
use Rattle.lot.specs.Strata.{strata, strata_count}
use Rattle.permanova_p_values.specs.Hits.{statistic}
use Rattle.permanova_statistics.specs.Statistics.{location_f, z_of, dispersion_of}
use Rattle.permanova_statistics.specs.Warnings.{uninformed}
use Rattle.shuffle.specs.Shuffled.{parts}
use Rattle.permanova_sampling.specs.Drawn.{hits_of}
use Rattle.permanova_p_values.specs.PValues.{p_value}

unfoldable pub parts_of : Lot → List (List ℕ)
parts_of lot = parts (strata lot) (kept_count lot.labels) (strata_count lot)

unfoldable pub p_value_of : Lot → (List ℕ → Float) → ℕ → ℕ → Option Float
p_value_of lot f seed n =
    let lab = groups lot.labels in
    p_value (uninformed lot) (statistic (f lab)) (hits_of f (parts_of lot) lab seed n) n

unfoldable pub location_pvalue : Lot → ℕ → ℕ → Option Float
location_pvalue lot seed n = p_value_of lot (location_f lot) seed n

-- dispersion keeps the observed z
unfoldable pub dispersion_pvalue : Lot → ℕ → ℕ → Option Float
dispersion_pvalue lot seed n = p_value_of lot (dispersion_of lot (z_of lot (groups lot.labels))) seed n
