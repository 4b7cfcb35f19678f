-- What is seen and counted on a lot's own terms is the lot's, and so is the answer.
use Rattle.lists.proofs.Base.{◌≡◌, sym, ap, ◌∙◌, Bool, ℕ, ◌*◌, ◌≤◌, arith, length, Float}
use mathlib.Core.List.{List, Memᴰ}
use Rattle.lists.proofs.{Counts.count-cong}
use Rattle.lot.specs.{Lot.Lot, Kept.kept, Kept.groups, Kept.kept_count, Kept.group_count, Strata.strata}
use Rattle.permanova_sums.specs.Squares.{weights_of, pair_terms_of, weighted_squares_of}
use Rattle.permanova_statistics.specs.Statistics.{total_of, within_of, location_f, z_of, dispersion_of, dispersion_f}
use Rattle.permanova_statistics.specs.{Summaries.summary_of}
use Rattle.lot_design.specs.declared.Design.{Design}
use Rattle.lot_design.specs.inner.Designs.{kept_of, groups_of, strata_of, Describes}
use Rattle.permanova_statistics.specs.declared.summary.Summary.{Summary}
use Rattle.permanova_statistics.specs.declared.observation.Observed.{Observed}
use Rattle.permanova_statistics.specs.inner.Observed.{observed_of}
use Rattle.dapc_discriminant.specs.Dapc.{columns_used}
use Rattle.exhaustive_ways.specs.Ways.{ways_of, ways, way_count_of, way_count}
use Rattle.exhaustive_hits.specs.declared.{Seen.Seen, Hits.Hits}
use Rattle.exhaustive_hits.specs.inner.{WayHits.location_hit, WayHits.dispersion_hit, WayHits.assignment_hit, WayHits.hits_among, Judgements.concluded}
use Rattle.exhaustive_walk.specs.declared.way_statistics.Frame.{Frame}
use Rattle.exhaustive_hits.specs.Assignments.{columns_of}
use Rattle.exhaustive_walk.specs.inner.WayStatistics.{barred_by, frame_of, location_by, dispersion_by, assignment_by, statistics_by}
use Rattle.exhaustive_walk.proofs.WayAssignments.{statistics-way}
use Rattle.exhaustive_hits.specs.declared.judgement.{Counted.Counted, Judgement.Judgement}
use Rattle.exhaustive_hits.specs.Exhaustive.{location_of, dispersion_of as dispersion_of_way, assignment_of, hits, location_hits, dispersion_hits, assignment_hits, judgement}
use Rattle.exhaustive_hits.proofs.SameStatistics.{every_way}
use Rattle.exhaustive_answer.specs.inner.{Counted.statistics_of, Counted.seen_by, Counted.counted_of, Answering.Owns, Answering.Answerable}
use Rattle.exhaustive_answer.proofs.JudgedDesigns.{own-way}

abbrev counted : Seen → Hits → Counted
counted seen h = record { seen = seen; hits = h }

-- statistics that are the same for every way have the same hits
hits-cong : (observed : Seen) (f g : List ℕ → Seen) (all : List (List ℕ)) → ((way : List ℕ) → Memᴰ way all → f way ≡ g way) →
    hits_among observed f all ≡ hits_among observed g all
unfolding hits_among
hits-cong observed f g all same = λ i. record {
  location = count-cong (λ way. location_hit observed (f way)) (λ way. location_hit observed (g way)) all (λ way h. ap (location_hit observed) (same way h)) i;
  dispersion = count-cong (λ way. dispersion_hit observed (f way)) (λ way. dispersion_hit observed (g way)) all (λ way h. ap (dispersion_hit observed) (same way h)) i;
  assignment = count-cong (λ way. assignment_hit observed (f way)) (λ way. assignment_hit observed (g way)) all (λ way h. ap (assignment_hit observed) (same way h)) i;
}

module _ (lot : Lot) (labelled : length lot.labels ≡ lot.n) (few : lot.n ≤ 256) (two : 2 ≤ group_count lot.labels) (x : List Float)
    (coordinates : length x ≡ lot.n * columns_of lot.n) where
  abbrev frame : Frame
  frame = frame_of lot.n (kept_count lot.labels) (group_count lot.labels) x (total_of lot)

  abbrev found : List ℕ → Seen
  found = statistics_by frame (kept_count lot.labels) (pair_terms_of lot) (weighted_squares_of lot) (weights_of lot) x (kept lot.labels)

  way-is : (way : List ℕ) → Memᴰ way (ways lot) → found way ≡ statistics_of lot x way
  unfolding statistics_of location_of dispersion_of_way assignment_of
  way-is way h = statistics-way lot labelled few way ((every_way lot).sound way h) x coordinates two

  own_is : found (groups lot.labels) ≡ statistics_of lot x (groups lot.labels)
  unfolding statistics_of location_of dispersion_of_way assignment_of
  own_is = statistics-way lot labelled few (groups lot.labels) (own-way lot) x coordinates two

  counted-lot : counted (found (groups lot.labels)) (hits_among (found (groups lot.labels)) found (ways lot)) ≡ counted_of lot x
  unfolding counted_of
  counted-lot = (λ i. record { seen = own_is i; hits = hits_among (own_is i) found (ways lot) })
      ∙ (λ i. record { seen = statistics_of lot x (groups lot.labels); hits = hits-cong (statistics_of lot x (groups lot.labels)) found (statistics_of lot x) (ways lot) way-is i })

-- over equal numbers and lists
module _ (lot : Lot) (x : List Float) where
  abbrev own-frame : Frame
  own-frame = frame_of lot.n (kept_count lot.labels) (group_count lot.labels) x (total_of lot)

  abbrev own-found : List ℕ → Seen
  own-found = statistics_by own-frame (kept_count lot.labels) (pair_terms_of lot) (weighted_squares_of lot) (weights_of lot) x (kept lot.labels)

  counted-by : {t p w : List Float} {n k g : ℕ} {ks gs ss : List ℕ} {o : Observed} {f : Frame} {m : ℕ} {seen : Seen} {h : Hits}
      → t ≡ pair_terms_of lot → p ≡ weighted_squares_of lot → w ≡ weights_of lot → n ≡ lot.n → k ≡ kept_count lot.labels → g ≡ group_count lot.labels
      → ks ≡ kept lot.labels → gs ≡ groups lot.labels → ss ≡ strata lot
      → o ≡ observed_of lot → f ≡ frame_of n k g x o.total → m ≡ k → seen ≡ seen_by o (assignment_by f x ks gs)
      → h ≡ hits_among seen (statistics_by f m t p w x ks) (ways_of f.groups ss gs)
      → counted seen h ≡ counted (own-found (groups lot.labels)) (hits_among (own-found (groups lot.labels)) own-found (ways lot))
  unfolding seen_by statistics_by location_by dispersion_by observed_of location_f within_of dispersion_f dispersion_of z_of ways
  counted-by et ep ew en ek eg eks egs ess eo ef em es eh = rw (eh, es, em, ef, eo, et, ep, ew, en, ek, eg, eks, egs, ess)

-- ---- on a design

module _ {d : Design} {p t w x : List Float} {label_counts scores : ℕ} (a : Answerable d p t w x label_counts scores) (lot : Lot) (own : Owns lot d p t w) where
  abbrev e : Describes lot d
  e = own.weighs.described

  abbrev told : Describes a.lot d
  told = a.owns.weighs.described

  n-is : d.n ≡ lot.n
  n-is = e.many ∙ own.labelled

  few : lot.n ≤ 256
  few = omega (arith, n-is, told.many, a.owns.labelled, a.few)

  two : 2 ≤ group_count lot.labels
  two = omega (arith, e.groups_many, told.groups_many, a.two)

  sized : length x ≡ lot.n * columns_of lot.n
  sized = a.coordinates ∙ ap (λ (n : ℕ). n * columns_of n) n-is

  -- M is the same for both
  pub same-ways : way_count a.lot ≡ way_count lot
  unfolding way_count
  same-ways = sym (λ i. way_count_of (told.strata_are i) (told.groups_are i)) ∙ (λ i. way_count_of (e.strata_are i) (e.groups_are i))

  pub counted_is : {o : Observed} {f : Frame} {m : ℕ} {seen : Seen} {h : Hits} → o ≡ observed_of lot → f ≡ frame_of d.n d.kept d.groups x o.total → m ≡ d.kept
      → seen ≡ seen_by o (assignment_by f x (kept_of d) (groups_of d)) → h ≡ hits_among seen (statistics_by f m t p w x (kept_of d)) (ways_of f.groups (strata_of d) (groups_of d))
      → counted seen h ≡ counted_of lot x
  counted_is eo ef em es eh = counted-by lot x own.weighs.pair_terms own.weighs.weighted_squares own.weighs.weights n-is e.kept_many
      e.groups_many e.kept_are e.groups_are e.strata_are eo ef em es eh ∙ counted-lot lot own.labelled few two x sized

-- ---- the frame, from its parts

pub frame_is : (n m g : ℕ) (x : List Float) (total : Float) {columns lead : ℕ} {barred : Bool} → columns ≡ columns_of n → lead ≡ columns_used columns m g → barred ≡ barred_by x lead
    → record { n = n; groups = g; columns = columns; lead = lead; barred = barred; total = total } ≡ frame_of n m g x total
frame_is n m g x total ec el eb = rw (eb, el, ec)

-- ---- the answer

pub judged-is : (lot : Lot) (x : List Float) {s : Summary} {ways : ℕ} {c : Counted} {r : Judgement} → s ≡ summary_of lot 0 → c ≡ counted_of lot x → r ≡ concluded s ways c
    → ways ≡ way_count lot → r ≡ judgement lot x
unfolding judgement counted_of statistics_of hits_among location_hits dispersion_hits assignment_hits hits
judged-is lot x es ec er ew = er ∙ (λ i. concluded (es i) (ew i) (ec i))
