-- Demand 3: one claim on all M calls together, in each of which another way is handed in as the observed one. Statements only.
use Rattle.std.specs.Prelude.{◌≡◌, Bool, false, ◌&&◌, List, map, ℕ, ◌≤◌, leb, length, get_or}
use Rattle.lists.specs.Filters.{count_if}
use Rattle.outcome.specs.Outcome.{Outcome, answered, refused}
use Rattle.limits.specs.Limits.{most_ways, none}
use Rattle.lot.specs.Lot.{Lot}
use Rattle.lot.specs.Kept.{twice, kept, group_labels}
use Rattle.lot.specs.Way.{IsWay, relabelled, SameLot}
use Rattle.permanova_p_values.specs.Hits.{hit}
use Rattle.ordination_coordinates.specs.Finish.{Coordinates}
use Rattle.exhaustive_ways.specs.Ways.{ways, way_count}
use Rattle.exhaustive_ways.specs.Every.{Every}
use Rattle.exhaustive_hits.specs.WayHits.{as_right, is_given}
use Rattle.exhaustive_hits.specs.declared.judgement.Judgement.{Judgement}
use Rattle.exhaustive_hits.specs.Exhaustive.{location_of, dispersion_of, assignment_of, hits, coordinates}
use Rattle.exhaustive_hits.specs.Call.{Slices, NoShorter, Called, exhaustive_call}

-- ---- a way handed in

-- Labels hand in a way where the kept samples have the way's labels in turn, and the samples not kept have their own.
pub record HandsIn (lot : Lot) (way labels : List ℕ) : Type 0 where
  pub same_length : length labels ≡ length lot.labels
  pub inside : map (λ i. get_or labels i none) (kept lot.labels) ≡ map (λ j. get_or (group_labels lot.labels) j none) way
  pub outside : (i : ℕ) → twice lot.labels (get_or lot.labels i none) ≡ false → get_or labels i none ≡ get_or lot.labels i none

-- `relabelled` does that and nothing else does; there the way is the observed one, and all else that labels tell is the same.
pub record Observed (lot : Lot) (way : List ℕ) : Type 0 where
  pub handed_in : HandsIn lot way (relabelled lot way).labels
  pub no_other : (labels : List ℕ) → HandsIn lot way labels → labels ≡ (relabelled lot way).labels
  pub same_lot : SameLot lot way

-- ---- the M calls: `made way` is the call in which that way is the observed one

-- Its answer j: M; the way's own statistics; and hits that are the numbers of ways that section 6 counts, each way's statistics by sections 2 to 5
-- with that way's labels, whichever way is observed. c is `pcoa` of the full matrix.
pub record Exact (lot : Lot) (c : Coordinates) (way : List ℕ) (j : Judgement) : Type 0 where
  pub M : j.ways ≡ way_count lot
  pub location : j.location.statistic ≡ location_of lot way
  pub location_hits : j.location.hits ≡ hits hit (location_of lot) way (ways lot)
  pub dispersion : j.dispersion.statistic ≡ dispersion_of lot way
  pub dispersion_hits : j.dispersion.hits ≡ hits hit (dispersion_of lot) way (ways lot)
  pub assigned : j.assigned.statistic ≡ assignment_of lot c.coords way
  pub assigned_hits : j.assigned.hits ≡ hits as_right (assignment_of lot c.coords) way (ways lot)

-- It is accepted, with such an answer.
pub record Accepted (lot : Lot) (c : Coordinates) (way : List ℕ) (call : Called) : Type 0 where
  pub j : Judgement
  pub answers : call.answer ≡ answered j
  pub exact : Exact lot c way j

-- how many of the M calls answer and pass the test
unfoldable pub passes : (Judgement → Bool) → Outcome Judgement → Bool
passes test (answered j) = test j
passes test (refused r) = false

unfoldable pub calls : Lot → (List ℕ → Called) → (Judgement → Bool) → ℕ
calls lot made test = count_if (λ way. passes test (made way).answer) (ways lot)

-- ---- demand 3

-- All M calls together, one for each way: each is accepted, and at most k give k hits or fewer. An assignment that is withheld is not counted.
pub record Level (lot : Lot) (made : List ℕ → Called) : Type 0 where
  pub every : Every lot (ways lot)
  pub few : way_count lot ≤ most_ways
  pub observed : (way : List ℕ) → IsWay lot way → Observed lot way
  pub c : Coordinates
  pub ordinated : coordinates lot ≡ answered c
  pub accepted : (way : List ℕ) → IsWay lot way → Accepted lot c way (made way)
  pub location : (k : ℕ) → calls lot made (λ j. leb j.location.hits k) ≤ k
  pub dispersion : (k : ℕ) → calls lot made (λ j. leb j.dispersion.hits k) ≤ k
  pub assigned : (k : ℕ) → calls lot made (λ j. is_given j.assigned.statistic && leb j.assigned.hits k) ≤ k

-- A lot that a call accepts, and the M calls made, each as its contract says, with the slices that `lend` gives: no shorter, whatever they hold.
abbrev pub Demand3 : Type 0
Demand3 =
    (lot : Lot) (s : Slices) (j : Judgement) → (exhaustive_call lot s).answer ≡ answered j
    → (lend : List ℕ → Slices) → ((way : List ℕ) → IsWay lot way → NoShorter s (lend way))
    → (made : List ℕ → Called) → ((way : List ℕ) → IsWay lot way → made way ≡ exhaustive_call (relabelled lot way) (lend way))
    → Level lot made
