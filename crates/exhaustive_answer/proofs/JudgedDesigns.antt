-- What is known of a design of a lot that is judged on given coordinates.
use Rattle.lists.proofs.Base.{◌≡◌, refl, sym, ap, subst, ◌∙◌, Bool, true, false, cond, List, ℕ, ◌+◌, ◌-◌, ◌*◌}
use Rattle.lists.proofs.Base.{◌≤◌, min-le_left, min-le_right, mul-le-mul, arith, length, length-map, Float}
use Rattle.lists.specs.Numbers.{how_many}
use Rattle.lists.specs.inner.Numbers.{Below}
use Rattle.lists.proofs.Ranges.{length-grid}
use Rattle.limits.specs.Limits.{none}
use Rattle.lot.specs.{Lot.Lot, Kept.kept, Kept.groups, Kept.kept_count, Kept.group_count}
use Rattle.lot.specs.{Strata.named, Strata.held_strata, Strata.strata, Strata.strata_count, Way.IsWay}
use Rattle.lot.proofs.Samples.{length-groups, length-gathered}
use Rattle.lot.proofs.{GroupsAndStrata.groups-below, GroupsAndStrata.length-strata, GroupsAndStrata.strata-below, Numbering.named-few}
use Rattle.permanova_sums.specs.Squares.{weight_at, pair_terms, weighted_squares, weights_of, pair_terms_of, weighted_squares_of}
use Rattle.lot_design.specs.declared.Design.{Design}
use Rattle.lot_design.specs.inner.Designs.{kept_of, groups_of, strata_of, Describes, Sound}
use Rattle.lot_design.proofs.{Designs.sound, Accepted.kept-all, Accepted.samples-below}
use Rattle.permanova_statistics.specs.inner.Observation.{Weighed}
use Rattle.dapc_discriminant.specs.Dapc.{columns_used, axes_of}
use Rattle.dapc.proofs.LabelGroups.{half-groups}
use Rattle.exhaustive_ways.specs.Ways.{ways, way_count}
use Rattle.exhaustive_ways.specs.inner.Remaining.{HasRows}
use Rattle.exhaustive_ways.proofs.CountsLeft.{rows-below}
use Rattle.exhaustive_hits.specs.Assignments.{columns_of}
use Rattle.exhaustive_walk.specs.declared.way_statistics.Frame.{Frame}
use Rattle.exhaustive_walk.specs.inner.WayStatistics.{frame_of, Framed, HasRoom, Prepared, Judged}
use Rattle.exhaustive_walk.proofs.WayAssignments.{way-judged}
use Rattle.exhaustive_walk.specs.inner.Walks.{Walkable}
use Rattle.exhaustive_hits.proofs.SameStatistics.{every_way}
use Rattle.exhaustive_answer.specs.inner.Answering.{Answerable}

-- the observed way is one
pub own-way : (lot : Lot) → IsWay lot (groups lot.labels)
unfolding kept_count
own-way lot = record { labels_all = length-groups lot.labels; keeps_counts = λ s j. refl }

-- there are no more strata than kept samples
strata-within : (lot : Lot) → 2 ≤ group_count lot.labels → strata_count lot ≤ kept_count lot.labels
unfolding strata_count held_strata kept_count group_count
strata-within lot two = by lot.stratified
  where
    by : (b : Bool) → cond b (length (named (held_strata lot)) + how_many none (held_strata lot)) 1 ≤ length (kept lot.labels)
    by true = omega (arith, named-few (held_strata lot), length-gathered lot.strata (kept lot.labels))
    by false = omega (arith, half-groups lot.labels)

below_more : (a b : ℕ) (l : List ℕ) → a ≤ b → Below a l → Below b l
below_more a b l h w i q = omega (arith, w i q)

-- facts that go over to equal numbers and lists
moved-judged : {n n' m m' g g' : ℕ} {ks ks' way way' : List ℕ} → n ≡ n' → m ≡ m' → g ≡ g' → ks ≡ ks' → way ≡ way' → Judged n' m' g' ks' way' →
    Judged n m g ks way
moved-judged en em eg ek ew j = rw (en, em, eg, ek, ew) j

moved-walkable : {n n' g g' : ℕ} {ks ks' ss ss' gs gs' : List ℕ} → n ≡ n' → g ≡ g' → ks ≡ ks' → ss ≡ ss' → gs ≡ gs' →
    Walkable n' g' ks' ss' gs' → Walkable n g ks ss gs
moved-walkable en eg ek es eh j = rw (en, eg, ek, es, eh) j

moved-below : {n n' : ℕ} {l l' : List ℕ} → n ≡ n' → l ≡ l' → Below n' l' → Below n l
moved-below en el b = rw (en, el) b

moved-prepared : {f : Frame} {m m' : ℕ} {t p w x : List Float} {ks : List ℕ} → m ≡ m' → Prepared f m' t p w x ks → Prepared f m t p w x ks
moved-prepared em a = rw em a

square-of : {l l' : List Float} {m m' : ℕ} → l ≡ l' → m ≡ m' → length l' ≡ m' * m' → length l ≡ m * m
square-of el em h = rw (el, em) h

as_long : {l l' : List Float} {m m' : ℕ} → l ≡ l' → m ≡ m' → length l' ≡ m' → length l ≡ m
as_long el em h = rw (el, em) h

half-lot : (lot : Lot) → 2 * group_count lot.labels ≤ kept_count lot.labels
unfolding group_count kept_count
half-lot lot = half-groups lot.labels

-- lengths of what a lot is weighed by
weighed-lot : (lot : Lot) → (length (weighted_squares_of lot) ≡ kept_count lot.labels * kept_count lot.labels) × (length (pair_terms_of lot) ≡ kept_count lot.labels * kept_count lot.labels)
    × (length (weights_of lot) ≡ kept_count lot.labels)
unfolding weighted_squares_of pair_terms_of weights_of weighted_squares pair_terms kept_count
weighed-lot lot = (length-grid _ _ _, length-grid _ _ _, length-map (kept lot.labels) (weight_at lot.weighted lot.weights))

module _ {d : Design} {p t w x : List Float} {label_counts scores : ℕ} (a : Answerable d p t w x label_counts scores) where
  abbrev lot : Lot
  lot = a.lot

  abbrev e : Describes lot d
  e = a.owns.weighs.described

  n-is : d.n ≡ lot.n
  n-is = e.many ∙ a.owns.labelled

  pub judged-sound : Sound d
  judged-sound = sound lot (omega (arith, a.few, a.owns.labelled)) (omega (arith, a.two)) e

  pub judged-weighed : Weighed d p t w
  judged-weighed =
      let l = weighed-lot lot in
      record {
        sound = judged-sound;
        weighted_squares = square-of a.owns.weighs.weighted_squares e.kept_many l.0;
        pair_terms = square-of a.owns.weighs.pair_terms e.kept_many l.1;
        weights = as_long a.owns.weighs.weights e.kept_many l.2;
      }

  half : 2 * d.groups ≤ d.kept
  half = omega (arith, e.groups_many, e.kept_many, half-lot lot)

  within : d.kept ≤ d.n
  within = kept-all lot e

  framed : (total : Float) → Framed (frame_of d.n d.kept d.groups x total) d.kept
  unfolding columns_used
  framed total = record {
    two = omega (arith, e.groups_many, a.two);
    most = omega (arith, half, within, n-is, a.few);
    enough = omega (arith, half);
    kept = omega (arith, within, n-is, a.few);
    few = omega (arith, n-is, a.few);
    leads = min-le_left (columns_of d.n) (d.kept - (d.groups + 1));
    narrow = omega (arith, min-le_left 8 d.n);
  }

  pub samples-long : length (kept_of d) ≡ d.kept
  unfolding kept_count
  samples-long = ap length e.kept_are ∙ sym e.kept_many

  strata-long : length (strata_of d) ≡ d.kept
  strata-long = ap length e.strata_are ∙ length-strata lot ∙ sym e.kept_many

  judged-room : (total : Float) → HasRoom (frame_of d.n d.kept d.groups x total) scores
  unfolding columns_used axes_of
  judged-room total =
      let columns = columns_of d.n in
      let lead = columns_used columns d.kept d.groups in
      let wide : columns ≤ d.n = min-le_right 8 d.n in
      let leads : lead ≤ columns = min-le_left columns (d.kept - (d.groups + 1)) in
      let axes : axes_of d.groups lead ≤ d.n = omega (arith, min-le_right (d.groups - 1) lead) in
      omega (arith, a.scores_room, mul-le-mul {n₁ = d.n} {m₁ = axes_of d.groups lead} {n₂ = d.n} {m₂ = d.n} (omega arith) axes)

  judged-own : Judged d.n (length (kept_of d)) d.groups (kept_of d) (groups_of d)
  judged-own = moved-judged n-is (samples-long ∙ e.kept_many) e.groups_many e.kept_are e.groups_are (way-judged lot a.owns.labelled a.few (groups lot.labels) (own-way lot))

  judged-walkable : Walkable d.n d.groups (kept_of d) (strata_of d) (groups_of d)
  judged-walkable = moved-walkable n-is e.groups_many e.kept_are e.strata_are e.groups_are walkable-lot
    where
      walkable-lot : Walkable lot.n (group_count lot.labels) (kept lot.labels) (strata lot) (groups lot.labels)
      walkable-lot = unfold ways way_count kept_count group_count in record {
        samples = length-strata lot;
        grouped = length-groups lot.labels ∙ sym (length-strata lot);
        below = groups-below lot.labels;
        few = a.few_ways;
        judged = λ way h. way-judged lot a.owns.labelled a.few way ((every_way lot).sound way h);
      }

  judged-rows : (counts : List ℕ) → length counts ≡ label_counts → HasRows d.groups (strata_of d) counts
  judged-rows counts h = rows-below d.groups d.kept (strata_of d) counts (moved-below e.kept_many e.strata_are
      (below_more (strata_count lot) (kept_count lot.labels) (strata lot) (strata-within lot a.two) (strata-below lot)))
      (omega (arith, a.label_counts_room))

  prepared : (total : Float) → Prepared (frame_of d.n d.kept d.groups x total) (length (kept_of d)) t p w x (kept_of d)
  prepared total =
      let l = judged-weighed in
      moved-prepared samples-long (record {
        weighed = record { pair_terms = l.pair_terms; weighted_squares = l.weighted_squares; weights = l.weights };
        placing = record { framed = framed total; coordinates = a.coordinates; samples = samples-long; places = samples-below lot e };
      })

  -- by the frame that the code makes
  module _ {f : Frame} (total : Float) (made : f ≡ frame_of d.n d.kept d.groups x total) where
    pub basis-ready : Prepared f (length (kept_of d)) t p w x (kept_of d)
    basis-ready = subst (λ (f : Frame). Prepared f (length (kept_of d)) t p w x (kept_of d)) (sym made) (prepared total)

    pub see-ready : Judged f.n (length (kept_of d)) f.groups (kept_of d) (groups_of d)
    see-ready = subst (λ (f : Frame). Judged f.n (length (kept_of d)) f.groups (kept_of d) (groups_of d)) (sym made) judged-own

    pub room-ready : {s : ℕ} → s ≡ scores → HasRoom f s
    room-ready es = subst (λ (s : ℕ). HasRoom f s) (sym es) (subst (λ (f : Frame). HasRoom f scores) (sym made) (judged-room total))

    pub count-ready : (counts : List ℕ) → length counts ≡ label_counts → Walkable f.n f.groups (kept_of d) (strata_of d) (groups_of d) × HasRows f.groups (strata_of d) counts
    count-ready counts h = subst (λ (f : Frame). Walkable f.n f.groups (kept_of d) (strata_of d) (groups_of d) × HasRows f.groups (strata_of d) counts)
        (sym made) (judged-walkable, judged-rows counts h)
