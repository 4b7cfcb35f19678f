-- Section 6: the exhaustive test of a lot. Definitions only.
-- A way has a group for each kept sample; the observed one is `groups lot.labels`.
use Rattle.std.specs.Prelude.{ℕ, Bool, List, Float, Option}
use Rattle.lists.specs.Filters.{count_if}
use Rattle.outcome.specs.Outcome.{Outcome, answered, and_then}
use Rattle.lot.specs.Lot.{Lot}
use Rattle.lot.specs.Kept.{groups}
use Rattle.lot.specs.Way.{relabelled}
use Rattle.permanova_p_values.specs.declared.Statistic.{Statistic}
use Rattle.permanova_p_values.specs.Hits.{statistic, hit}
use Rattle.permanova_statistics.specs.Statistics.{location_f, dispersion_f}
use Rattle.permanova_statistics.specs.Summaries.{summary_of}
use Rattle.ordination_coordinates.specs.Finish.{Coordinates}
use Rattle.ordination_coordinates.specs.Pcoa.{pcoa}
use Rattle.exhaustive_ways.specs.Ways.{ways, way_count}
use Rattle.exhaustive_hits.specs.WayHits.{as_right}
use Rattle.exhaustive_hits.specs.Assignments.{assignment, columns_of}
use Rattle.exhaustive_hits.specs.declared.judgement.Judgement.{Judgement}

-- ---- for each way

-- location F
unfoldable pub location_of : Lot → List ℕ → Statistic
location_of lot way = statistic (location_f lot way)

-- dispersion F, with z worked out anew for that way
unfoldable pub dispersion_of : Lot → List ℕ → Statistic
dispersion_of lot way = statistic (dispersion_f lot way)

-- `dapc` with the way's labels, on coordinates of all n samples
unfoldable pub assignment_of : Lot → List Float → List ℕ → Option ℕ
assignment_of lot coords way = assignment lot.n (columns_of lot.n) coords (relabelled lot way).labels

-- ---- over all ways

-- the hits of a way's statistic among all ways
unfoldable pub hits : {X : Type 0} → (X → X → Bool) → (List ℕ → X) → List ℕ → List (List ℕ) → ℕ
hits is_hit stat observed all = let x = stat observed in count_if (λ way. is_hit x (stat way)) all

unfoldable pub location_hits : Lot → ℕ
location_hits lot = hits hit (location_of lot) (groups lot.labels) (ways lot)

unfoldable pub dispersion_hits : Lot → ℕ
dispersion_hits lot = hits hit (dispersion_of lot) (groups lot.labels) (ways lot)

unfoldable pub assignment_hits : Lot → List Float → ℕ
assignment_hits lot coords = hits as_right (assignment_of lot coords) (groups lot.labels) (ways lot)

-- ---- the answer

-- on given coordinates; only warning bits 0 to 4 are set
unfoldable pub judgement : Lot → List Float → Judgement
judgement lot coords =
    let observed = groups lot.labels in
    record {
      summary = summary_of lot 0;
      ways = way_count lot;
      location = record { statistic = location_of lot observed; hits = location_hits lot };
      dispersion = record { statistic = dispersion_of lot observed; hits = dispersion_hits lot };
      assigned = record { statistic = assignment_of lot coords observed; hits = assignment_hits lot coords };
    }

-- `pcoa` with 8 components of the full matrix
unfoldable pub coordinates : Lot → Outcome Coordinates
coordinates lot = pcoa 8 lot.n lot.distances

-- An 11 of `pcoa` is returned.
unfoldable pub exhaustive : Lot → Outcome Judgement
exhaustive lot = and_then (coordinates lot) (λ c. answered (judgement lot c.coords))
