-- Section 8: warning bits 0 to 4, of a lot. Definitions only.
use Rattle.std.specs.Prelude.{ℕ, Bool, not, ◌&&◌, List, eqb, ltb}
use Rattle.std.specs.Float.Ieee.{lt}
use Rattle.float.specs.Floats.{0·5}
use Rattle.lists.specs.Filters.{any}
use Rattle.lot.specs.Lot.{Lot}
use Rattle.lot.specs.Kept.{left_out, groups, kept_count, group_count, sizes}
use Rattle.lot.specs.Strata.{informative_count, fraction}
use Rattle.permanova_p_values.specs.WarningBits.{warning_bits}
use Rattle.permanova_statistics.specs.Statistics.{some_negative}

-- strata given and none informs
unfoldable pub uninformed : Lot → Bool
uninformed lot = lot.stratified && eqb (informative_count lot) 0

-- how many samples each group has
unfoldable pub sizes_of : Lot → List ℕ
sizes_of lot = sizes (groups lot.labels) (kept_count lot.labels) (group_count lot.labels)

-- labels left out; strata given and none informs; fraction below 0.5 (and some inform); smallest group under 5; some dispersion value below 0
unfoldable pub warned : Lot → ℕ
warned lot =
    warning_bits (left_out lot.labels) (uninformed lot) (lt (fraction lot) 0·5 && not (eqb (informative_count lot) 0)) (any (λ c. ltb c 5) (sizes_of lot))
    (some_negative lot (groups lot.labels))
