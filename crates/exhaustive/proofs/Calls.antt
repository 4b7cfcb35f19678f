-- A whole call, from what inner functions leave.
use Rattle.lists.proofs.Base.{◌≡◌, refl, sym, ap, subst, ◌∙◌, Bool, true, false, List, [], ◌∷◌, ℕ, ◌≤◌, ◌<◌, arith, le-ltb, lt-ltb, ltb, length, replicate, Float}
use Rattle.float.specs.Floats.{zero⁺}
use Rattle.lists.specs.Writes.{over, cleared}
use Rattle.lists.proofs.Writes.{cleared-same}
use Rattle.outcome.specs.declared.Refusal.{Refusal}
use Rattle.outcome.specs.declared.Refusal.TheVariants.{Ways}
use Rattle.outcome.specs.{Numbers.number, Numbers.told, Refusals.Line, Refusals.◌when◌, Refusals.first, Refusals.short}
use Rattle.outcome.specs.Outcome.{Outcome, Told, passed, answered, refused, judged, and_then}
use Rattle.outcome.specs.Slices.{untouched, output, work}
use Rattle.outcome.proofs.Table.{first-after, first-before, told-refused}
use Rattle.lot.specs.{Lot.Lot, Kept.group_count, Lines.test_lines}
use Rattle.lot.proofs.AcceptedLots.{lines-untouched}
use Rattle.lot_design.specs.declared.Design.{Design}
use Rattle.lot_design.specs.inner.Designs.{group_labels_of, Describes}
use Rattle.ordination_coordinates.specs.{Finish.Coordinates, Pcoa.pcoa}
use Rattle.limits.specs.Limits.{most_ways}
use Rattle.exhaustive_ways.specs.Ways.{way_count}
use Rattle.exhaustive_ways.specs.inner.Ways.{capped}
use Rattle.exhaustive_ways.proofs.WayCounts.{many-ways}
use Rattle.exhaustive_hits.specs.declared.judgement.Judgement.{Judgement}
use Rattle.std.specs.Prelude.{Result, Ok, Err}
use Rattle.exhaustive_hits.specs.Exhaustive.{judgement, coordinates, exhaustive}
use Rattle.exhaustive_hits.specs.Call.{Slices, Called, slices_of, called, exhaustive_asks, lengths_of, too_short, exhaustive_lines, call_in, call_by, outcome_of, exhaustive_call}
use Rattle.exhaustive_hits.specs.inner.Call.{early}
use Rattle.exhaustive_answer.specs.inner.{Refused.turned, Ordination.coords_in, Ordination.coords_told, Ordination.coords_of, Answering.Answers}
use Rattle.exhaustive_answer.proofs.LentCoordinates.{late-told}

-- by equal coordinates
pub moved-judges : {lot : Lot} {x x' : List Float} {counts counts' : List ℕ} {means means' : List Float} {r : Judgement} → x ≡ x'
    → Answers lot x counts means counts' means' r → Answers lot x' counts means counts' means' r
moved-judges {lot} {x} {x'} {counts} {counts'} {means} {means'} {r} e j = subst (λ (x : List Float). Answers lot x counts means counts' means' r) e j

-- ---- by what the ordination tells

module _ (lot : Lot) where
  answered-by : (o : Outcome Coordinates) {x : List Float} → answered x ≡ coords_of o → answered (judgement lot x) ≡ and_then o (λ c. answered (judgement lot c.coords))
  unfolding coords_of and_then
  answered-by (answered c) {x} e = let same : x ≡ c.coords = cc in ap (λ (x : List Float). answered (judgement lot x)) same
  answered-by (refused r) e = let z : ◌≡◌ {A = ℕ} 0 1 = cc in absurd (omega arith)

  refused-by : (o : Outcome Coordinates) {r : ℕ} → refused r ≡ coords_of o → refused r ≡ and_then o (λ c. answered (judgement lot c.coords))
  unfolding coords_of and_then
  refused-by (answered c) e = let z : ◌≡◌ {A = ℕ} 0 1 = cc in absurd (omega arith)
  refused-by (refused q) {r} e = let same : r ≡ q = cc in ap refused same

-- ---- what is left once the lines let a call pass

module _ (lot : Lot) where
  refused-call : (r : ℕ) (s : Slices) → untouched r ≡ false → turned (group_count lot.labels) r s ≡ call_by lot (refused r) s
  unfolding turned call_by call_in output work
  refused-call r s u = rw u refl

  pub settled-refused : {g : ℕ} {r : Refusal} {c : Result Unit Refusal} (coords : List Float) (s s' : Slices) {b : Called} → g ≡ group_count lot.labels → c ≡ Err r
      → coords_told lot.n c coords ≡ coords_of (pcoa 8 lot.n lot.distances) → turned g (number r) s' ≡ turned g (number r) s → b ≡ turned g (number r) s' → b ≡ call_by lot (exhaustive lot) s
  unfolding exhaustive coordinates
  settled-refused {g} {r} {c} coords s s' eg ec h es eb =
      let is : refused (number r) ≡ coords_of (pcoa 8 lot.n lot.distances) = ap (λ (c : Result Unit Refusal). coords_told lot.n c coords) (sym ec) ∙ h in
      eb ∙ es ∙ ap (λ (g : ℕ). turned g (number r) s) eg ∙ refused-call (number r) s (late-told lot.n lot.distances is)
      ∙ ap (λ (o : Outcome Judgement). call_by lot o s) (refused-by lot (pcoa 8 lot.n lot.distances) is)

  pub settled-answered : {d : Design} {c : Result Unit Refusal} (coords : List Float) (s : Slices) {j : Judgement} {ns counts : List ℕ}
      {means pair_terms weighted_squares coords' eigenpairs vectors : List Float} {label_counts : List ℕ}
      → Describes lot d → c ≡ Ok tt → coords_told lot.n c coords ≡ coords_of (pcoa 8 lot.n lot.distances) → Answers lot (coords_in lot.n coords) s.counts s.means counts means j
      → ns ≡ over (group_labels_of d) s.labels → pair_terms ≡ cleared zero⁺ s.pair_terms → weighted_squares ≡ cleared zero⁺ s.weighted_squares →
      coords' ≡ cleared zero⁺ s.coords
      → eigenpairs ≡ cleared zero⁺ s.eigenpairs → vectors ≡ cleared zero⁺ s.vectors → label_counts ≡ cleared 0 s.label_counts
      → called (Ok j) (slices_of ns counts means pair_terms weighted_squares coords' eigenpairs vectors label_counts) ≡ call_by lot (exhaustive lot) s
  unfolding exhaustive coordinates call_by call_in output work
  settled-answered {d} {c} coords s e ec h r en et ep eo er ev ew =
      let is : answered (coords_in lot.n coords) ≡ coords_of (pcoa 8 lot.n lot.distances) = ap (λ (c : Result Unit Refusal). coords_told lot.n c coords) (sym ec) ∙ h in
      let named = en ∙ ap (λ (l : List ℕ). over l s.labels) e.names_are in
      (λ i. called (Ok (r.answer i)) (slices_of (named i) (r.listed.sizes i) (r.listed.mean_z i) (et i) (ep i) (eo i) (er i) (ev i) (ew i)))
      ∙ ap (λ (o : Outcome Judgement). call_by lot o s) (answered-by lot (pcoa 8 lot.n lot.distances) is)

-- an outcome with these slices
abbrev call_of : Outcome Judgement → Slices → Called
call_of o s = record { answer = o; after = s }

-- work of the same lengths is the same afterwards
pub turned_same : (g r : ℕ) (ns counts : List ℕ) (means pair_terms weighted_squares coords eigenpairs vectors : List Float) (label_counts : List ℕ)
    (pair_terms' weighted_squares' coords' eigenpairs' vectors' : List Float) → length pair_terms' ≡ length pair_terms →
    length weighted_squares' ≡ length weighted_squares → length coords' ≡ length coords → length eigenpairs' ≡ length eigenpairs →
    length vectors' ≡ length vectors → turned g r (slices_of ns counts means pair_terms' weighted_squares' coords' eigenpairs' vectors' label_counts)
    ≡ turned g r (slices_of ns counts means pair_terms weighted_squares coords eigenpairs vectors label_counts)
unfolding turned
turned_same g r ns counts means pair_terms weighted_squares coords eigenpairs vectors label_counts pair_terms' weighted_squares' coords' eigenpairs' vectors' et ep eo er ev =
    λ i. call_of (refused r) (slices_of (over (replicate g 0) ns) (over (replicate g 0) counts) (over (replicate g zero⁺) means)
    (cleared-same zero⁺ pair_terms pair_terms' et i) (cleared-same zero⁺ weighted_squares weighted_squares' ep i) (cleared-same zero⁺ coords coords' eo i)
    (cleared-same zero⁺ eigenpairs eigenpairs' er i) (cleared-same zero⁺ vectors vectors' ev i) (cleared 0 label_counts))

-- ---- the lines at the start of a call

module _ (lot : Lot) (s : Slices) where
  abbrev late : List Line
  late = (8 when ltb most_ways (way_count lot)) ∷ []

  pub short-is : {b : Bool} → b ≡ short (lengths_of s) (exhaustive_asks lot.n) → b ≡ too_short lot.n s
  unfolding too_short
  short-is e = e

  pub early-is : {short : Bool} {c : Told} → short ≡ too_short lot.n s → c ≡ first (test_lines lot short false) → c ≡ early lot s
  unfolding early
  early-is es ec = ec ∙ ap (λ (b : Bool). first (test_lines lot b false)) es

  -- a call that a line turns away leaves all as it was
  stays : (r : Refusal) → untouched (number r) ≡ true → called (Err r) s ≡ call_by lot (refused (number r)) s
  unfolding call_by call_in output work
  stays r u = rw u refl

  pub call-refused : {c : Result Unit Refusal} {r : Refusal} → told c ≡ early lot s → c ≡ Err r → called (Err r) s ≡ exhaustive_call lot s
  unfolding exhaustive_call outcome_of exhaustive_lines early
  call-refused {c} {r} h i =
      let e = told-refused h i in
      stays r (lines-untouched lot (too_short lot.n s) false e)
      ∙ ap (λ (c : Told). call_by lot (judged c (exhaustive lot)) s) (sym (first-before (test_lines lot (too_short lot.n s) false) late (sym e)))

  -- line 8
  pub call-many : {w : ℕ} → early lot s ≡ passed → w ≡ capped (way_count lot) → most_ways < w → called (Err Ways) s ≡ exhaustive_call lot s
  unfolding exhaustive_call outcome_of exhaustive_lines early first
  call-many {w} clear e h =
      let holds : first late ≡ refused 8 = rw (lt-ltb most_ways (way_count lot) (many-ways (way_count lot) e h)) refl in
      stays Ways refl ∙ ap (λ (c : Told). call_by lot (judged c (exhaustive lot)) s) (sym (first-after (test_lines lot (too_short lot.n s) false) late clear ∙ holds))

  pub call-passed : {b : Called} → early lot s ≡ passed → way_count lot ≤ most_ways → b ≡ call_by lot (exhaustive lot) s → b ≡ exhaustive_call lot s
  unfolding exhaustive_call outcome_of exhaustive_lines early first
  call-passed clear few eb =
      let passes : first late ≡ passed = rw (le-ltb most_ways (way_count lot) few) refl in
      eb ∙ ap (λ (c : Told). call_by lot (judged c (exhaustive lot)) s) (sym (first-after (test_lines lot (too_short lot.n s) false) late clear ∙ passes))
