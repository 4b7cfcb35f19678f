-- A description is a design, and a design of an accepted lot is sound.
use Rattle.lists.proofs.Base.{◌≡◌, sym, ap, ◌∙◌, subst, Bool, List, ◌++◌, ℕ, ◌≤◌, arith, length, take, drop, length-take-le}
use Rattle.lists.specs.Writes.{over}
use Rattle.lists.specs.inner.Numbers.{Below}
use Rattle.lists.proofs.Writes.{take-over}
use Rattle.lot.specs.declared.Shape.{Shape}
use Rattle.lot.specs.{Lot.Lot, Kept.left_out, Kept.kept_labels, Kept.group_labels, Kept.groups, Kept.kept_count, Kept.group_count}
use Rattle.lot.specs.Strata.{held_strata, strata, strata_count, informative, informative_count}
use Rattle.lot.specs.inner.Description.{samples_of, Described}
use Rattle.lot.proofs.{FilledFronts.filled-front, Samples.kept-few, Samples.length-groups, Samples.length-kept_labels, Inserts.length-upward}
use Rattle.lot.proofs.{Informing.informing-few, Numbering.strata-few, GroupsAndStrata.groups-below, GroupsAndStrata.length-strata}
use Rattle.lot_design.specs.declared.Design.{Design}
use Rattle.lot_design.specs.inner.Designs.{groups_of, Describes, Sound}

module _ (lot : Lot) {shape : Shape} {ks ns gs ss ks' ns' gs' ss' : List ℕ} (d : Described lot shape ks ns gs ss ks' ns' gs' ss') where
  pub kept-many : shape.kept ≡ kept_count lot.labels
  unfolding kept_count
  kept-many = d.samples.many

  groups-many : shape.groups ≡ group_count lot.labels
  unfolding group_count
  groups-many = d.labelled.many

  front-groups : take shape.kept gs' ≡ groups lot.labels
  front-groups = ap (take shape.kept) d.grouped ∙ take-over (groups lot.labels) gs shape.kept (length-groups lot.labels ∙ sym d.samples.many)

  front-strata : take shape.kept ss' ≡ strata lot
  front-strata = ap (take shape.kept) d.stratified ∙ take-over (strata lot) ss shape.kept (length-strata lot ∙ sym kept-many)

  pub designed : {given : Bool} {informing n : ℕ} {left : Bool} → given ≡ lot.stratified → length (take shape.kept ss') ≡ shape.kept
      → informing ≡ informative (take shape.kept ss') (take shape.kept gs') (length (take shape.kept ss')) → left ≡ left_out lot.labels → n ≡ length lot.labels
      → Describes lot (record {
        stratified = given;
        left_out = left;
        n = n;
        kept = shape.kept;
        groups = shape.groups;
        strata = shape.strata;
        informing = informing;
        samples = ks';
        labels = ns';
        group = gs';
        stratum = ss';
      })
  unfolding informative_count
  designed same long counted told all = record {
    stratified = same;
    left_out = told;
    many = all;
    kept_many = kept-many;
    groups_many = groups-many;
    strata_many = d.strata_many;
    informing = counted ∙ (λ i. informative (front-strata i) (front-groups i) ((long ∙ kept-many) i));
    kept_are = filled-front ks d.samples;
    names_are = filled-front ns d.labelled;
    groups_are = front-groups;
    strata_are = front-strata;
  }

-- a front that was lent and came back as a list's own front
pub named-over : {A : Type 0} {k : ℕ} (l : List A) (old : List A) {r : List A} → k ≤ length l → r ≡ take k l → r ++ drop k old ≡ over (take k l) old
unfolding over
named-over {A} {k} l old {r} h e = λ i. e i ++ drop (sym (length-take-le k l h) i) old

-- what is told of the samples is told of the lot
pub designs-lot : (lot : Lot) {d : Design} → Describes (samples_of lot.labels lot.stratified lot.strata) d → Describes lot d
unfolding strata strata_count held_strata informative_count
designs-lot lot e = record {
  stratified = e.stratified;
  left_out = e.left_out;
  many = e.many;
  kept_many = e.kept_many;
  groups_many = e.groups_many;
  strata_many = e.strata_many;
  informing = e.informing;
  kept_are = e.kept_are;
  names_are = e.names_are;
  groups_are = e.groups_are;
  strata_are = e.strata_are;
}

module _ (lot : Lot) (few : length lot.labels ≤ 256) (some : 1 ≤ group_count lot.labels) {d : Design} (e : Describes lot d) where
  kept-256 : d.kept ≤ 256
  unfolding kept_count
  kept-256 = omega (arith, e.kept_many, kept-few lot.labels)

  groups-all : d.groups ≤ d.kept
  unfolding kept_count group_count group_labels
  groups-all = omega (arith, e.kept_many, e.groups_many, length-upward (kept_labels lot.labels), length-kept_labels lot.labels)

  groups-fine : Below d.groups (groups_of d)
  unfolding group_count
  groups-fine = subst (Below d.groups) (sym e.groups_are) (subst (λ (n : ℕ). Below n (groups lot.labels)) (sym e.groups_many) (groups-below lot.labels))

  informing-256 : d.informing ≤ 256
  unfolding informative_count
  informing-256 = omega (arith, informing-few _ _ _ e.informing, e.kept_many, kept-256)

  pub sound : Sound d
  sound = record {
    few = kept-256;
    some = omega (arith, e.groups_many);
    enough = groups-all;
    groups = groups-fine;
    strata = omega (arith, e.strata_many, strata-few lot (omega (arith, e.kept_many, kept-256)));
    informing = informing-256;
  }
