-- What is observed of labels, and of a lot. Definitions only.
use Rattle.std.specs.Prelude.{ℕ, List, Float}
use Rattle.lot.specs.Lot.{Lot}
use Rattle.lot.specs.Kept.{groups}
use Rattle.permanova_location.specs.Location.{total, within, pseudo_f, r_squared}
use Rattle.permanova_dispersion.specs.Dispersion.{z_of, some_negative}
use Rattle.permanova_dispersion.specs.Anova.{anova_f}
use Rattle.permanova_statistics.specs.Statistics as statistics
use Rattle.permanova_statistics.specs.declared.observation.Located.{Located}
use Rattle.permanova_statistics.specs.declared.observation.Spread.{Spread}
use Rattle.permanova_statistics.specs.declared.observation.Observed.{Observed}

-- ---- of a lot: total, both F's, r2, and whether a dispersion value is below 0

unfoldable pub observed_of : Lot → Observed
observed_of lot =
    let way = groups lot.labels in
    record {
      total = statistics.total_of lot;
      f = statistics.location_f lot way;
      r2 = statistics.r_squared_of lot way;
      disp_f = statistics.dispersion_f lot way;
      negative = statistics.some_negative lot way;
    }

-- ---- of labels, over terms t, weighted squares p and weights w of m samples in g groups

unfoldable pub located : List Float → List Float → List ℕ → ℕ → ℕ → Located
located t w lab m g =
    record {
      total = total t w m;
      f = pseudo_f (total t w m) (within t w lab m g) m g;
      r2 = r_squared (total t w m) (within t w lab m g);
    }

unfoldable pub spread : List Float → List Float → List Float → List ℕ → ℕ → ℕ → Spread
spread p t w lab m g = record { f = anova_f (z_of p t w lab m) lab m g; negative = some_negative p t w lab m }

-- both
unfoldable pub observed : List Float → List Float → List Float → List ℕ → ℕ → ℕ → Observed
observed p t w lab m g =
    let l = located t w lab m g in
    let d = spread p t w lab m g in
    record { total = l.total; f = l.f; r2 = l.r2; disp_f = d.f; negative = d.negative }
