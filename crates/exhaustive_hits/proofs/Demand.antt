-- Demand 3: of every lot that the exhaustive test accepts, all M calls are accepted, with exact hits, and each of the three tests keeps its level.
use Rattle.lists.proofs.Base.{◌≡◌, ap, ap₂, ◌∙◌, Bool, ◌&&◌, ℕ, ◌≤◌, T, leb}
use Rattle.std.specs.Prelude.{Option}
use mathlib.Core.List.{List, Memᴰ as Member}
use lib.Ieee.{binary64, fits}
use lib.Ieee.Fits.{div-fits}
use Rattle.lists.specs.Filters.{count_if}
use Rattle.outcome.specs.{Refusals.first, Outcome.Told, Outcome.passed, Outcome.answered, Outcome.judged}
use Rattle.lot.specs.{Lot.Lot, Way.IsWay, Way.relabelled}
use Rattle.lists.proofs.Counts.{count-cong}
use Rattle.lot.proofs.Relabelled.{same-lot}
use Rattle.permanova_location.specs.Location.{pseudo_f, f_ratio}
use Rattle.permanova_dispersion.specs.Anova.{anova_f}
use Rattle.permanova_p_values.specs.Hits.{hit}
use Rattle.permanova_statistics.specs.{Statistics.location_f, Statistics.dispersion_f}
use Rattle.permanova_statistics.specs.Statistics as statistics
use Rattle.ordination_coordinates.specs.Finish.{Coordinates}
use Rattle.exhaustive_ways.specs.Ways.{ways}
use Rattle.exhaustive_hits.specs.WayHits.{as_right, is_given}
use Rattle.exhaustive_hits.specs.declared.judgement.Judgement.{Judgement}
use Rattle.exhaustive_hits.specs.Exhaustive.{location_of, dispersion_of, assignment_of, hits, location_hits, dispersion_hits, assignment_hits, coordinates, judgement, exhaustive}
use Rattle.exhaustive_hits.specs.Call.{Slices, NoShorter, Called, exhaustive_lines, outcome_of, call_in, call_by, exhaustive_call}
use Rattle.exhaustive_hits.specs.Level.{Exact, Accepted, passes, calls, Level, Demand3}
use Rattle.exhaustive_hits.proofs.{WaysHandedIn.observes, HitLevels.f-level, HitLevels.right-level}
use Rattle.exhaustive_hits.proofs.SameStatistics.{every_way, same-ways, same_count, same-location, same-dispersion, same-assignment, same-exhaustive}
use Rattle.outcome.proofs.Table.{judged-answers}
use Rattle.exhaustive_hits.proofs.Lines.{and_then-answers, ways-few, lines-again}

-- ---- every F is a quotient, and so an f64

location-fits : (lot : Lot) (way : List ℕ) → T (fits binary64 (location_f lot way))
unfolding location_f pseudo_f f_ratio
location-fits lot way = div-fits binary64 _ _

dispersion-fits : (lot : Lot) (way : List ℕ) → T (fits binary64 (dispersion_f lot way))
unfolding dispersion_f statistics.dispersion_of anova_f f_ratio
dispersion-fits lot way = div-fits binary64 _ _

-- ---- equal statistics of the ways, and the same ways, give equal hits

hits-same : {X : Type 0} (is_hit : X → X → Bool) (stat stat' : List ℕ → X) {way way' : List ℕ} {all all' : List (List ℕ)}
    → ((v : List ℕ) → Member v all → stat' v ≡ stat v) → stat' way ≡ stat way → way' ≡ way → all' ≡ all → hits is_hit stat' way' all' ≡ hits is_hit stat way all
unfolding hits
hits-same is_hit stat stat' {way} {way'} {all} {all'} s o w a = (λ i. count_if (λ v. is_hit (stat' (w i)) (stat' v)) (a i))
    ∙ count-cong (λ v. is_hit (stat' way) (stat' v)) (λ v. is_hit (stat way) (stat v)) all (λ v m. ap₂ is_hit o (s v m))

-- ---- one way handed in: its answer

module _ (lot : Lot) (way : List ℕ) (is-way : IsWay lot way) where
  counts-exactly : (c : Coordinates) → Exact lot c way (judgement (relabelled lot way) c.coords)
  unfolding judgement location_hits dispersion_hits assignment_hits
  counts-exactly c =
      let w = (same-lot lot way is-way).groups_are in
      let all = same-ways lot way is-way in
      let loc = same-location lot way is-way in
      let dis = same-dispersion lot way is-way in
      let ass = same-assignment lot way is-way c.coords in
      record {
        M = same_count lot way is-way;
        location = loc _ ∙ ap (location_of lot) w;
        location_hits = hits-same hit (location_of lot) (location_of (relabelled lot way)) (λ v _. loc v) (loc way) w all;
        dispersion = dis _ ∙ ap (dispersion_of lot) w;
        dispersion_hits = hits-same hit (dispersion_of lot) (dispersion_of (relabelled lot way)) (λ v _. dis v) (dis way) w all;
        assigned = ap (assignment_of (relabelled lot way) c.coords) w ∙ ass way is-way;
        assigned_hits =
            hits-same as_right (assignment_of lot c.coords) (assignment_of (relabelled lot way) c.coords) (λ v m. ass v ((every_way lot).sound v m)) (ass way is-way) w all;
      }

-- ---- a lot that a call accepts, and the M calls

module _ (lot : Lot) (s : Slices) (j : Judgement) (answers : (exhaustive_call lot s).answer ≡ answered j)
    (lend : List ℕ → Slices) (longer : (way : List ℕ) → IsWay lot way → NoShorter s (lend way))
    (made : List ℕ → Called) (meets : (way : List ℕ) → IsWay lot way → made way ≡ exhaustive_call (relabelled lot way) (lend way)) where
  clear : (first (exhaustive_lines lot s) ≡ passed) × (exhaustive lot ≡ answered j)
  unfolding exhaustive_call call_by call_in outcome_of
  clear = judged-answers (first (exhaustive_lines lot s)) (exhaustive lot) j answers

  ordination : (c : Coordinates) × (coordinates lot ≡ answered c)
  unfolding exhaustive
  ordination = and_then-answers (coordinates lot) _ j clear.1

  accepts : (way : List ℕ) → IsWay lot way → Accepted lot ordination.0 way (made way)
  unfolding exhaustive_call call_by call_in outcome_of
  accepts way w = record {
    j = judgement (relabelled lot way) ordination.0.coords;
    answers = ap (λ (m : Called). m.answer) (meets way w)
        ∙ ap (λ (c : Told). judged c (exhaustive (relabelled lot way))) (lines-again lot way w s (lend way) (longer way w) clear.0)
        ∙ same-exhaustive lot way w ordination.0 ordination.1;
    exact = counts-exactly lot way w ordination.0;
  }

  -- the calls that pass a test, by what the test says of each way's answer
  calls_are : (test : Judgement → Bool) (says : List ℕ → Bool) → ((way : List ℕ) (w : IsWay lot way) → test (accepts way w).j ≡ says way) →
      calls lot made test ≡ count_if says (ways lot)
  unfolding calls passes
  calls_are test says h = count-cong _ says (ways lot) (λ way m. let w = (every_way lot).sound way m in ap (passes test) (accepts way w).answers ∙ h way w)

  -- as many as k hits, by the ways that section 6 counts
  few-hits : {X : Type 0} (is_hit : X → X → Bool) (stat : List ℕ → X) (k : ℕ) (way : List ℕ) {n : ℕ} → n ≡ hits is_hit stat way (ways lot)
      → leb n k ≡ leb (count_if (λ v. is_hit (stat way) (stat v)) (ways lot)) k
  unfolding hits
  few-hits is_hit stat k way e = ap (λ (n : ℕ). leb n k) e

  location-level : (k : ℕ) → calls lot made (λ j. leb j.location.hits k) ≤ k
  unfolding location_of
  location-level k = rw (calls_are (λ j. leb j.location.hits k) (λ way. leb (count_if (λ v. hit (location_of lot way) (location_of lot v)) (ways lot)) k)
      (λ way w. few-hits hit (location_of lot) k way (accepts way w).exact.location_hits)) (f-level (location_f lot) (location-fits lot) (ways lot) k)

  dispersion-level : (k : ℕ) → calls lot made (λ j. leb j.dispersion.hits k) ≤ k
  unfolding dispersion_of
  dispersion-level k = rw (calls_are (λ j. leb j.dispersion.hits k) (λ way. leb (count_if (λ v. hit (dispersion_of lot way) (dispersion_of lot v)) (ways lot)) k)
      (λ way w. few-hits hit (dispersion_of lot) k way (accepts way w).exact.dispersion_hits))
      (f-level (dispersion_f lot) (dispersion-fits lot) (ways lot) k)

  assigned-level : (k : ℕ) → calls lot made (λ j. is_given j.assigned.statistic && leb j.assigned.hits k) ≤ k
  assigned-level k =
      let right = assignment_of lot ordination.0.coords in
      rw (calls_are (λ j. is_given j.assigned.statistic && leb j.assigned.hits k) (λ way. is_given (right way) && leb (count_if (λ v. as_right (right way) (right v)) (ways lot)) k)
      (λ way w. ap₂ (λ (a : Option ℕ) (b : Bool). is_given a && b) (accepts way w).exact.assigned (few-hits as_right right k way (accepts way w).exact.assigned_hits)))
      (right-level right (ways lot) k)

  keeps-level : Level lot made
  keeps-level = record {
    every = every_way lot;
    few = ways-few lot s clear.0;
    observed = observes lot;
    c = ordination.0;
    ordinated = ordination.1;
    accepted = accepts;
    location = location-level;
    dispersion = dispersion-level;
    assigned = assigned-level;
  }

-- DEMAND 3
pub demand-3 : Demand3
demand-3 = keeps-level
