-- Kept samples and their groups: how many there are, and that each has its place.
use Rattle.lists.proofs.Base.{◌≡◌, sym, ap, ◌∙◌, subst, Bool, true, cond, List, ◌++◌, map, ℕ, ◌+◌, ◌≤◌, arith, length, get_or, take, drop, length-map}
use Rattle.lists.specs.{Ranges.range, Numbers.how_many, Numbers.position, Numbers.upward, Writes.over}
use Rattle.lists.specs.inner.Numbers.{Below}
use Rattle.lists.proofs.{Ranges.length-range, Filters.length-filter, Filters.count_if-below, Writes.take-over, Members.filter-below, Parts.over-back}
use Rattle.limits.specs.Limits.{none}
use Rattle.lot.specs.inner.{Filled.Filled, Description.samples_of, Description.Grouped, Description.Stratified, Description.Described}
use Rattle.lot.specs.Kept.{twice, kept, gathered, kept_labels, group_labels, groups}
use Rattle.lot.specs.Strata.{named, numbered, held_strata, strata, strata_count}
use Rattle.lot.specs.declared.Sizes.{Sizes}
use Rattle.lot.proofs.{FilledFronts.filled-as, FilledFronts.filled-front, FilledFronts.filled-long, Inserts.length-upward}

-- ---- what is gathered stands at the front

pub front-gathered : (values ks out : List ℕ) {out' : List ℕ} → out' ≡ over (gathered values ks) out → take (length ks) out' ≡ gathered values ks
unfolding gathered
front-gathered values ks out gathers = ap (take (length ks)) gathers ∙ take-over (gathered values ks) out (length ks) (length-map ks (λ i. get_or values i none))

pub length-gathered : (values ks : List ℕ) → length (gathered values ks) ≡ length ks
unfolding gathered
length-gathered values ks = length-map ks (λ i. get_or values i none)

-- ---- kept samples

module _ (labels : List ℕ) where
  -- kept samples are samples
  pub kept-below : Below (length labels) (kept labels)
  unfolding kept
  kept-below = filter-below (λ i. twice labels (get_or labels i none)) (length labels)

  pub kept-few : length (kept labels) ≤ length labels
  unfolding kept
  kept-few =
      let p : ℕ → Bool = λ i. twice labels (get_or labels i none) in
      omega (arith, length-filter p (range 0 (length labels)), count_if-below p (range 0 (length labels)), length-range 0 (length labels))

  pub length-kept_labels : length (kept_labels labels) ≡ length (kept labels)
  unfolding kept_labels
  length-kept_labels = length-gathered labels (kept labels)

  pub length-groups : length (groups labels) ≡ length (kept labels)
  unfolding groups
  length-groups = length-map (kept_labels labels) (λ l. position l (group_labels labels)) ∙ length-kept_labels

  pub names-few : length (group_labels labels) ≤ length labels
  unfolding group_labels
  names-few = omega (arith, length-upward (kept_labels labels), length-kept_labels, kept-few)

-- ---- labels of kept samples, gathered, give way to their groups

module _ (labels ks gs gs' : List ℕ) (are : ks ≡ kept labels) (gathers : gs' ≡ over (gathered labels ks) gs) where
  front-labels : take (length ks) gs' ≡ kept_labels labels
  unfolding kept_labels
  front-labels = front-gathered labels ks gs gathers ∙ ap (gathered labels) are

  pub front-few : length (take (length ks) gs') ≤ length labels
  front-few = omega (arith, ap length front-labels, length-kept_labels labels, kept-few labels)

  pub named-groups : {ns ns' : List ℕ} {g : ℕ} → Filled (upward (take (length ks) gs')) ns ns' g → Filled (group_labels labels) ns ns' g
  unfolding group_labels
  named-groups f = filled-as _ (ap upward front-labels) f

  pub numbered-groups : {r : List ℕ} → r ≡ map (λ l. position l (upward (take (length ks) gs'))) (take (length ks) gs') → r ++ drop (length ks) gs' ≡ over (groups labels) gs
  unfolding group_labels groups
  numbered-groups {r} e =
      let whole : r ≡ groups labels = e ∙ ap (λ (ls : List ℕ). map (λ l. position l (upward ls)) ls) front-labels in
      let many : length r ≡ length ks = ap length whole ∙ length-groups labels ∙ sym (ap length are) in
      over-back (gathered labels ks) gs r gathers (length-gathered labels ks) many ∙ ap (λ (t : List ℕ). over t gs) whole

-- ---- the whole description: groups, then strata of the kept samples

module _ (labels given : List ℕ) (stratified : Bool) {sizes : Sizes} {ks ns gs ks' ns' gs' : List ℕ} (g : Grouped labels sizes ks ns gs ks' ns' gs') where
  -- the kept samples are a part of the slice that holds them, and places of the strata where these are given
  pub front_kept : take sizes.kept ks' ≡ kept labels
  front_kept = filled-front ks g.samples

  pub front-within : length labels ≤ length ks → sizes.kept ≤ length ks'
  front-within room =
      let few : sizes.kept ≤ length ks = omega (arith, g.samples.many, kept-few labels) in omega (arith, filled-long ks g.samples few)

  pub front_below : (stratified ≡ true → length given ≡ length labels) → stratified ≡ true → Below (length given) (take sizes.kept ks')
  front_below fit is = subst (Below (length given)) (sym front_kept) (subst (λ (n : ℕ). Below n (kept labels)) (sym (fit is)) (kept-below labels))

  pub described : {ss ss' : List ℕ} {s : ℕ} → Stratified stratified given (take sizes.kept ks') ss ss' s
      → Described (samples_of labels stratified given) (record { kept = sizes.kept; groups = sizes.groups; strata = s }) ks ns gs ss ks' ns' gs' ss'
  unfolding strata strata_count held_strata
  described {ss} {ss'} {s} t = record {
    samples = g.samples;
    labelled = g.labelled;
    grouped = g.grouped;
    stratified = t.numbers ∙ ap (λ (l : List ℕ). over (cond stratified (numbered (gathered given l)) (map (λ i. 0) l)) ss) front_kept;
    strata_many = t.count ∙ ap (λ (l : List ℕ). cond stratified (length (named (gathered given l)) + how_many none (gathered given l)) 1) front_kept;
  }

-- ---- what is told of the samples is told of the lot
