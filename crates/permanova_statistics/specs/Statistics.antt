-- Sections 2, 3 and 6: the statistics of a lot with the labels of a way. Definitions only.
-- A way has a group for each kept sample; the observed one is `groups lot.labels`.
use Rattle.std.specs.Prelude.{ℕ, Bool, List, Float}
use Rattle.lot.specs.Lot.{Lot}
use Rattle.lot.specs.Kept.{kept_count, group_count}
use Rattle.permanova_sums.specs.Squares.{weights_of, pair_terms_of, weighted_squares_of}
use Rattle.permanova_location.specs.Location as location
use Rattle.permanova_dispersion.specs.Dispersion as dispersion
use Rattle.permanova_dispersion.specs.Anova as anova

-- ---- location

unfoldable pub total_of : Lot → Float
total_of lot = location.total (pair_terms_of lot) (weights_of lot) (kept_count lot.labels)

unfoldable pub within_of : Lot → List ℕ → Float
within_of lot way = location.within (pair_terms_of lot) (weights_of lot) way (kept_count lot.labels) (group_count lot.labels)

unfoldable pub location_f : Lot → List ℕ → Float
location_f lot way = location.pseudo_f (total_of lot) (within_of lot way) (kept_count lot.labels) (group_count lot.labels)

unfoldable pub r_squared_of : Lot → List ℕ → Float
r_squared_of lot way = location.r_squared (total_of lot) (within_of lot way)

-- ---- dispersion: z worked out for that way

unfoldable pub z_of : Lot → List ℕ → List Float
z_of lot way = dispersion.z_of (weighted_squares_of lot) (pair_terms_of lot) (weights_of lot) way (kept_count lot.labels)

unfoldable pub some_negative : Lot → List ℕ → Bool
some_negative lot way = dispersion.some_negative (weighted_squares_of lot) (pair_terms_of lot) (weights_of lot) way (kept_count lot.labels)

-- the F of given z by the way's groups
unfoldable pub dispersion_of : Lot → List Float → List ℕ → Float
dispersion_of lot z way = anova.anova_f z way (kept_count lot.labels) (group_count lot.labels)

unfoldable pub dispersion_f : Lot → List ℕ → Float
dispersion_f lot way = dispersion_of lot (z_of lot way) way
