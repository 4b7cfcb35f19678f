-- `dapc_discriminant::allocation::assign_groups` meets its contract. By the test for a NaN.
use Rattle.lists.proofs.Base.{refl, sym, ap, ◌∙◌, List, ◌++◌, ℕ, ◌+◌, ◌*◌, replicate, length, take, drop, length-replicate, length-take-le, Float}
use Rattle.float.specs.Floats.{zero⁺}
use Rattle.lists.specs.Writes.{over}
use Rattle.outcome.specs.Numbers.{told}
use Rattle.dapc_scores.specs.{Assigned.assigned_of, Assigned.unordered, Scores.centroids}
use Rattle.dapc_discriminant.specs.inner.Outputs.{refusal}
use Rattle.dapc_discriminant.proofs.Outputs.{told-yes, told-no}
use Rattle.dapc_discriminant.proofs.AllocationOutputs.{conclude-refused, conclude-scored, part-scores, length-part-scores}
use Rattle.dapc_discriminant.proofs.allocation.assign_groups.Goals as goal

pub assign-tally-requires : goal.assign-tally-requires
assign-tally-requires c =
    let a = c.args in
    let s = a.samples in
    let pre = c.requires in (
      length-take-le _ _ pre.places,
      length-part-scores s.sizes.axes (length s.groups.now * s.sizes.axes) a.out.now pre.room,
      c.fill_centroids.auto.cen ∙ ap length pre.centroids ∙ length-replicate (s.sizes.groups * s.sizes.axes) zero⁺,
    )

pub returns-in-Ok : goal.returns-in-Ok
returns-in-Ok c =
    let a = c.args in
    let s = a.samples in
    let groups = s.groups.now in
    let n = length groups in
    let axes = s.sizes.axes in
    let g = s.sizes.groups in
    let out = a.out.now in
    let cen = c.fill_centroids.new.cen in
    let part = part-scores axes (n * axes) out in
    let e = c.assign-tally.ensures in
    let by = told-no {A = Unit} 11 tt _ (ap told (sym c.in-Ok.is) ∙ e.2) in
    conclude-scored n s.sizes.lead axes g groups (take axes out) (take (n * axes) (drop axes out)) out a.assigned.now
    (c.fill_centroids.ensures ∙ ap (centroids axes g groups) part) (e.0 ∙ ap (λ (t : List Float). assigned_of n axes g groups t cen) part) refl
    (ap (λ (t : List Float). unordered axes g groups t cen) (sym part) ∙ by.0) e.1 c.requires.room refl refl

pub returns-in-Err : goal.returns-in-Err
returns-in-Err c =
    let a = c.args in
    let s = a.samples in
    let groups = s.groups.now in
    let n = length groups in
    let axes = s.sizes.axes in
    let g = s.sizes.groups in
    let out = a.out.now in
    let cen = c.fill_centroids.new.cen in
    let part = part-scores axes (n * axes) out in
    let e = c.assign-tally.ensures in
    let by = told-yes {A = Unit} 11 tt _ (ap told (sym c.in-Err.is) ∙ e.2) in
    conclude-refused n s.sizes.lead axes g groups (take axes out) (take (n * axes) (drop axes out)) out a.assigned.now
    (c.fill_centroids.ensures ∙ ap (centroids axes g groups) part) (e.0 ∙ ap (λ (t : List Float). assigned_of n axes g groups t cen) part) refl
    (ap (λ (t : List Float). unordered axes g groups t cen) (sym part) ∙ by.0)
    (c.refuse.ensures ∙ ap (λ (k : ℕ). refusal k (over (replicate (axes + n * axes) zero⁺) out) (over (replicate n 0) (c.assign-tally.new.found ++ drop n a.assigned.now))) by.1)
