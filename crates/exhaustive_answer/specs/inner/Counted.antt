-- All three statistics of a way of a lot, on coordinates x of its samples, and their hits among all ways. Definitions only.
use Rattle.std.specs.Prelude.{List, ℕ, Float, Option}
use Rattle.lot.specs.Lot.{Lot}
use Rattle.lot.specs.Kept.{groups}
use Rattle.permanova_p_values.specs.Hits.{statistic}
use Rattle.permanova_statistics.specs.declared.observation.Observed.{Observed}
use Rattle.exhaustive_ways.specs.Ways.{ways}
use Rattle.exhaustive_hits.specs.declared.Seen.{Seen}
use Rattle.exhaustive_hits.specs.inner.WayHits.{hits_among}
use Rattle.exhaustive_hits.specs.declared.judgement.Counted.{Counted}
use Rattle.exhaustive_hits.specs.Exhaustive.{location_of, dispersion_of, assignment_of}

unfoldable pub statistics_of : Lot → List Float → List ℕ → Seen
statistics_of lot x way = record { location = location_of lot way; dispersion = dispersion_of lot way; assignment = assignment_of lot x way }

-- of the observed way, two of which are at hand
unfoldable pub seen_by : Observed → Option ℕ → Seen
seen_by o a = record { location = statistic o.f; dispersion = statistic o.disp_f; assignment = a }

-- the observed way's, and their hits
unfoldable pub counted_of : Lot → List Float → Counted
counted_of lot x =
    let seen = statistics_of lot x (groups lot.labels) in
    record { seen = seen; hits = hits_among seen (statistics_of lot x) (ways lot) }
