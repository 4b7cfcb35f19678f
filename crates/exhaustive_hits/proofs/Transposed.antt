-- The transposed matrix makes the same call of `exhaustive`, be it accepted or refused: the same answer, and the same in everything lent.
use Rattle.lists.proofs.Base.{◌≡◌, refl, ap, ◌∙◌, false, List, [], ◌∷◌, ◌++◌, ◌*◌, ltb, length, Float}
use Rattle.limits.specs.Limits.{most_ways}
use Rattle.outcome.specs.Outcome.{Told, passed, answered, refused, judged, and_then}
use Rattle.outcome.specs.{Refusals.◌when◌, Refusals.first, Slices.output, Slices.work}
use Rattle.outcome.proofs.Table.{first-both}
use Rattle.lot.specs.{Lot.Lot, Kept.group_labels, Kept.groups, Kept.kept_count, Kept.group_count, Strata.held_strata, Strata.strata, Way.relabelled}
use Rattle.lot.specs.{Mirror.with_distances, Mirror.transposed_lot, Lines.test_lines}
use Rattle.lot.proofs.Transposed.{SameSquares, lines-transposed, accepted-squares}
use Rattle.permanova_dispersion.specs.Anova.{mean_z}
use Rattle.permanova_p_values.specs.Hits.{statistic, hit}
use Rattle.permanova_statistics.specs.Warnings.{sizes_of}
use Rattle.permanova_statistics.proofs.SameSquares.{same-location, same-z, same-dispersion, same-summary}
use Rattle.ordination_coordinates.proofs.Transposed.{same-pcoa}
use Rattle.exhaustive_ways.specs.Ways.{ways, way_count}
use Rattle.exhaustive_hits.specs.Exhaustive.{location_of, dispersion_of, assignment_of, hits, location_hits, dispersion_hits, assignment_hits}
use Rattle.exhaustive_hits.specs.Exhaustive.{judgement, coordinates, exhaustive}
use Rattle.exhaustive_hits.specs.Call.{Slices, too_short, exhaustive_lines, call_in, call_by, outcome_of, exhaustive_call}

-- ---- with other distances and the same squares

module _ (lot : Lot) (e : List Float) (same : SameSquares e lot.distances) where
  location-same : location_of (with_distances lot e) ≡ location_of lot
  unfolding location_of
  location-same = λ i way. statistic (same-location lot e same i way)

  dispersion-same : dispersion_of (with_distances lot e) ≡ dispersion_of lot
  unfolding dispersion_of
  dispersion-same = λ i way. statistic (same-dispersion lot e same i way)

  location-hits-same : location_hits (with_distances lot e) ≡ location_hits lot
  unfolding location_hits ways strata held_strata
  location-hits-same = λ i. hits hit (location-same i) (groups lot.labels) (ways lot)

  dispersion-hits-same : dispersion_hits (with_distances lot e) ≡ dispersion_hits lot
  unfolding dispersion_hits ways strata held_strata
  dispersion-hits-same = λ i. hits hit (dispersion-same i) (groups lot.labels) (ways lot)

  judgement-same : (coords : List Float) → judgement (with_distances lot e) coords ≡ judgement lot coords
  unfolding judgement way_count assignment_hits assignment_of relabelled ways strata held_strata
  judgement-same coords = λ i.
      let observed = groups lot.labels in
      record {
        summary = same-summary lot e same 0 i;
        ways = way_count lot;
        location = record { statistic = location-same i observed; hits = location-hits-same i };
        dispersion = record { statistic = dispersion-same i observed; hits = dispersion-hits-same i };
        assigned = record { statistic = assignment_of lot coords observed; hits = assignment_hits lot coords };
      }

  pub same-exhaustive : exhaustive (with_distances lot e) ≡ exhaustive lot
  unfolding exhaustive coordinates
  same-exhaustive = λ i. and_then (same-pcoa 8 lot.n e lot.distances same i) (λ c. answered (judgement-same c.coords i))

-- by what the table says of both: an accepted lot with the same squares is answered the same, and a refusal reads no distance
same-call : (lot : Lot) (e : List Float) (s : Slices) (t : Told) → (t ≡ passed → SameSquares e lot.distances)
    → call_by (with_distances lot e) (judged t (exhaustive (with_distances lot e))) s ≡ call_by lot (judged t (exhaustive lot)) s
unfolding call_by call_in output work sizes_of
same-call lot e s (answered _) same = λ i.
    let observed = groups lot.labels in
    let m = kept_count lot.labels in
    let g = group_count lot.labels in
    call_in (group_labels lot.labels) (sizes_of lot) (mean_z (same-z lot e (same refl) i observed) observed m g) g (same-exhaustive lot e (same refl) i) s
same-call lot e s (refused r) same = refl

-- ---- the transposed lot

module _ (lot : Lot) (s : Slices) (long : length lot.distances ≡ lot.n * lot.n) where
  same_lines : exhaustive_lines (transposed_lot lot) s ≡ exhaustive_lines lot s
  unfolding exhaustive_lines way_count strata held_strata
  same_lines = λ i. lines-transposed lot long (too_short lot.n s) false i ++ ((8 when ltb most_ways (way_count lot)) ∷ [])

  passed-squares : first (exhaustive_lines lot s) ≡ passed → SameSquares (transposed_lot lot).distances lot.distances
  unfolding exhaustive_lines
  passed-squares e = accepted-squares lot long (too_short lot.n s) false
      (first-both (test_lines lot (too_short lot.n s) false) ((8 when ltb most_ways (way_count lot)) ∷ []) e).0

  pub exhaustive-transposed : exhaustive_call (transposed_lot lot) s ≡ exhaustive_call lot s
  unfolding exhaustive_call outcome_of
  exhaustive-transposed = ap (λ (t : Told). call_by (transposed_lot lot) (judged t (exhaustive (transposed_lot lot))) s) (ap first same_lines)
      ∙ same-call lot (transposed_lot lot).distances s (first (exhaustive_lines lot s)) passed-squares
