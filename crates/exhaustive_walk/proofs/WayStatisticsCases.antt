-- A way's statistics from their parts, and its assignment by cases, as the code takes it apart.
use Rattle.lists.proofs.Base.{◌≡◌, refl, sym, ap, ap₂, subst, ◌∙◌, Bool, true, false, ◌||◌, List, ℕ, ◌*◌, arith, ltb, length, Float}
use Rattle.lists.specs.Filters.{any}
use Rattle.lot_design.specs.inner.Groups.{placed}
use Rattle.outcome.specs.declared.Refusal.{Refusal}
use Rattle.outcome.specs.Outcome.{Outcome, answered, refused, and_then}
use Rattle.permanova_location.specs.Location.{within, pseudo_f}
use Rattle.permanova_dispersion.specs.{Dispersion.z_of, Anova.anova_f}
use Rattle.permanova_p_values.specs.declared.Statistic.{Statistic}
use Rattle.permanova_p_values.specs.Hits.{statistic}
use Rattle.dapc_scatter.specs.Means.{grouped}
use Rattle.dapc_scatter.specs.inner.Means.{Numbered}
use Rattle.dapc_discriminant.specs.declared.Separation.{Separation}
use Rattle.dapc_discriminant.specs.{Dapc.Scores, Dapc.axes_of, Dapc.discriminate, Outputs.Called, Outputs.leaves, Outputs.called}
use Rattle.dapc_discriminant.specs.inner.Outputs.{Ready}
use Rattle.dapc.specs.DapcLines.{bad_coordinate}
use Rattle.exhaustive_hits.specs.declared.{Seen.Seen, Hits.Hits}
use Rattle.std.specs.Prelude.{Option, None, Result}
use Rattle.outcome.specs.Numbers.{outcome_of}
use Rattle.exhaustive_hits.specs.inner.WayHits.{hits_of}
use Rattle.exhaustive_walk.specs.declared.way_statistics.Frame.{Frame}
use Rattle.exhaustive_hits.specs.Assignments.{right_count}
use Rattle.exhaustive_walk.specs.inner.WayStatistics.{barred_by, location_by, dispersion_by, found, assignment_by, statistics_by, Placing, HasRoom, Judged}

-- ---- location and dispersion

module _ (f : Frame) (m : ℕ) (t p w : List Float) (way : List ℕ) {r : Statistic} {v : Float} (is : r ≡ statistic v) where
  pub location-is : {inside : Float} → v ≡ pseudo_f f.total inside m f.groups → inside ≡ within t w way m f.groups → r ≡ location_by f m t w way
  unfolding location_by
  location-is e ei = rw (is, e, ei)

  pub dispersion-is : {z : List Float} → v ≡ anova_f z way m f.groups → z ≡ z_of p t w way m → r ≡ dispersion_by f m t p w way
  unfolding dispersion_by
  dispersion-is e ez = rw (is, e, ez)

-- ---- what `dapc` answers

pub answer-found : (n p axes : ℕ) (o : Outcome Scores) (out : List Float) (assigned : List ℕ) → right_count (leaves n p axes o out assigned).answer ≡ found o
unfolding right_count found leaves and_then
answer-found n p axes (answered s) out assigned = refl
answer-found n p axes (refused r) out assigned = refl

pub found-by : (n p axes : ℕ) (o : Outcome Scores) (out : List Float) (assigned : List ℕ) (r : Result Separation Refusal) {out' : List Float} {assigned' : List ℕ} {a : Option ℕ}
    → a ≡ right_count (outcome_of r) → called r out' assigned' ≡ leaves n p axes o out assigned → a ≡ found o
found-by n p axes o out assigned r e h = e ∙ ap (λ (c : Called). right_count c.answer) h ∙ answer-found n p axes o out assigned

-- ---- the groups of a way are ready for the scores

module _ {f : Frame} {m : ℕ} {x : List Float} {ks way : List ℕ} {scores : ℕ} (a : Placing f m x ks) (room : HasRoom f scores) (j : Judged f.n m f.groups ks way) {each : List ℕ}
    (is : each ≡ placed f.n ks way) (long : length each ≡ f.n) where
  pub way-ready : Ready f.columns f.lead (axes_of f.groups f.lead) f.groups x each scores 256 × (m ≡ length (grouped each))
  way-ready = (
    record {
      coordinates = a.coordinates ∙ ap (λ (k : ℕ). k * f.columns) (sym long);
      leads = a.framed.leads;
      narrow = omega (arith, a.framed.leads, a.framed.narrow);
      two = a.framed.two;
      most = a.framed.most;
      numbered = subst (λ (l : List ℕ). Numbered f.groups l) (sym is) j.numbered;
      few = omega (arith, a.framed.few);
      axial = refl;
      room = omega (arith, room, ap (λ (k : ℕ). k * axes_of f.groups f.lead) long);
      places = omega (arith, a.framed.few);
    },
    j.grouped ∙ ap (λ (l : List ℕ). length (grouped l)) (sym is),
  )

  pub way-found : {r : Option ℕ} → f.barred ≡ false → r ≡ found (discriminate (length each) f.columns f.lead x each f.groups) → r ≡ assignment_by f x ks way
  unfolding assignment_by
  way-found unbarred e = rw unbarred (e ∙ ap₂ (λ (k : ℕ) (l : List ℕ). found (discriminate k f.columns f.lead x l f.groups)) long is)

-- ---- where the coordinates are barred, and where not

pub barred-beyond : (x : List Float) (lead : ℕ) {b : Bool} → b ≡ any bad_coordinate x → b ≡ true → true ≡ barred_by x lead
unfolding barred_by
barred-beyond x lead e h = ap (λ (t : Bool). t || ltb lead 2) (sym h ∙ e)

pub barred-few : (x : List Float) (lead : ℕ) {b : Bool} → b ≡ any bad_coordinate x → b ≡ false → ltb lead 2 ≡ barred_by x lead
unfolding barred_by
barred-few x lead e h = ap (λ (t : Bool). t || ltb lead 2) (sym h ∙ e)

pub assignment-barred : (f : Frame) (x : List Float) (ks way : List ℕ) → f.barred ≡ true → None ≡ assignment_by f x ks way
unfolding assignment_by
assignment-barred f x ks way e = rw e

-- ---- all three

module _ (f : Frame) (m : ℕ) (t p w x : List Float) (ks way : List ℕ) {l d : Statistic} {a : Option ℕ} where
  pub statistics-are : l ≡ location_by f m t w way → d ≡ dispersion_by f m t p w way → a ≡ assignment_by f x ks way
      → record { location = l; dispersion = d; assignment = a } ≡ statistics_by f m t p w x ks way
  unfolding statistics_by
  statistics-are el ed ea = λ i. record { location = el i; dispersion = ed i; assignment = ea i }

pub found-hits : (observed : Seen) {s found : Seen} {r : Hits} → r ≡ hits_of observed s → s ≡ found → r ≡ hits_of observed found
found-hits observed e es = e ∙ ap (hits_of observed) es
