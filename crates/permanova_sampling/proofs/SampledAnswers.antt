-- Both p of a lot from the hits of its design's shuffles, or without them, and its answer from its parts.
use Rattle.lists.proofs.Base.{◌≡◌, refl, sym, ◌∙◌, Bool, true, ◌&&◌, List, ℕ, ◌≤◌, arith, eqb, Float}
use Rattle.lot.specs.Lot.{Lot}
use Rattle.permanova_p_values.specs.declared.Statistic.{Statistic}
use Rattle.permanova_p_values.specs.declared.Statistic.TheVariants.{Finite, Unbounded}
use Rattle.permanova_p_values.specs.Hits.{statistic}
use Rattle.permanova_statistics.specs.Statistics.{total_of, within_of, location_f, dispersion_of, dispersion_f}
use Rattle.permanova_p_values.specs.{PValues.p_value, Together.together}
use Rattle.permanova_statistics.specs.{Warnings.uninformed, Summaries.summary_of}
use Rattle.lot_design.specs.declared.Design.{Design}
use Rattle.permanova_statistics.specs.declared.observation.Observed.{Observed}
use Rattle.permanova_statistics.specs.inner.Observed.{observed_of}
use Rattle.permanova_sampling.specs.declared.hits.Draws.{Draws}
use Rattle.permanova_sampling.specs.{Drawn.hits_of, Sampled.parts_of, Sampled.p_value_of, Sampled.location_pvalue, Sampled.dispersion_pvalue}
use Rattle.permanova_sampling.specs.inner.{Drawn.location_hit, Drawn.dispersion_hit, Drawn.hits_among, Drawn.drawn, Neither.neither}
use Rattle.permanova_sampling.specs.inner.{Neither.both, Tested.p_values_of, Measurement.Concludes}
use Rattle.permanova_p_values.specs.declared.Both.{Both}
use Rattle.std.specs.Prelude.{Option, None}
use Rattle.permanova_p_values.proofs.JointWarnings.{together-le}
use Rattle.permanova_statistics.specs.declared.summary.Summary.{Summary}
use Rattle.permanova_sampling.specs.Tested.{tested}
use Rattle.permanova_sampling.specs.inner.Measurement as room

-- where neither F can have a p, the hits tell nothing
module _ (none : Bool) (a b n : ℕ) where
  without : (s t : Statistic) → neither none s t ≡ true →
      ◌≡◌ {A = Both (Option Float)} (record { location = None; dispersion = None }) (record { location = p_value none s a n; dispersion = p_value none t b n })
  unfolding neither p_value
  without (Finite f) (Finite g) e = rw e
  without (Finite f) Unbounded e = rw e
  without Unbounded (Finite g) e = rw e
  without Unbounded Unbounded e = refl

pub neither-has : (none : Bool) (seen : Both Statistic) (hits : Both ℕ) (n : ℕ) {x : Bool} → x ≡ neither none seen.location seen.dispersion → x ≡ true
    → ◌≡◌ {A = Both (Option Float)} (record { location = None; dispersion = None }) (both none seen hits n)
unfolding both
neither-has none seen hits n e taken = without none hits.location hits.dispersion n seen.location seen.dispersion (sym e ∙ taken)

-- both p, as the code finds one after the other
pub both-are : (none : Bool) (seen : Both Statistic) (n : ℕ) {h hits : Both ℕ} {location dispersion : Option Float} → h ≡ hits
    → location ≡ p_value none seen.location h.location n → dispersion ≡ p_value none seen.dispersion h.dispersion n
    → ◌≡◌ {A = Both (Option Float)} (record { location = location; dispersion = dispersion }) (both none seen hits n)
unfolding both
both-are none seen n e el ed = rw (el, ed, e)

-- what was observed of a lot gives both its p
abbrev seen_as : Statistic → Statistic → Both Statistic
seen_as location dispersion = record { location = location; dispersion = dispersion }

module _ (lot : Lot) (draws : Draws) {d : Design} {t w z : List Float} {o : Observed} (e : room.Seen lot d t w z o) where
  pub p-values-are : {first second : Statistic} {none : Bool} {r : Both (Option Float)} → first ≡ statistic o.f → second ≡ statistic o.disp_f → none ≡ (d.stratified && eqb d.informing 0)
      → r ≡ both none (seen_as first second) (drawn d t w z (seen_as first second) o.total draws) draws.many
      → r ≡ p_values_of lot draws.seed draws.many
  unfolding both p_values_of location_pvalue dispersion_pvalue p_value_of parts_of drawn hits_among location_hit dispersion_hit hits_of observed_of uninformed
      location_f total_of within_of dispersion_f dispersion_of
  p-values-are ef es en er =
      let is = e.described in
      rw (er, en, es, ef, e.observed, e.distances, e.pair_terms, e.weights, is.groups_are, is.strata_are, is.kept_many, is.groups_many, is.strata_many, is.informing, is.stratified)

-- bits 5 and 6 are few
pub together-few : (sizes : List ℕ) (p q : Option Float) {r : ℕ} → r ≡ together sizes p q → r ≤ 64
together-few sizes p q e = omega (arith, e, together-le sizes p q)

module _ (lot : Lot) (seed n : ℕ) {d : Design} {weighted : Bool} {o : Observed} {counts : List ℕ} {c : Both (Option Float)} (e : Concludes lot seed n d weighted o counts c) where
  pub concluded : {more : ℕ} {summary : Summary} {p q : Option Float} → more ≡ together counts p q → summary ≡ summary_of lot more → p ≡ c.location → q ≡ c.dispersion
      → record { summary = summary; f = o.f; p = p; disp_f = o.disp_f; disp_p = q; strata_used = d.stratified; weighted = weighted } ≡ tested lot seed n
  unfolding tested observed_of p_values_of
  concluded em es ep eq = rw (es, em, ep, eq, e.p_values, e.sizes, e.observed, e.described.stratified, ← e.weighted_as)
