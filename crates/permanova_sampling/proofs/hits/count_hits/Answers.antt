-- `permanova_sampling::hits::count_hits` meets its contract. The hits so far and those of the shuffles left are always all.
use Rattle.lists.proofs.Base.{refl, sym, subst, ◌∙◌, List, ◌++◌, ℕ, ◌≤◌, arith, length, take, drop, length-take-le}
use Rattle.lists.proofs.Fronts.{Back, back}
use Rattle.permanova_sampling.specs.inner.Hits.{Assigned}
use Rattle.permanova_sampling.proofs.ShuffleHits.{added-one, counting-none, counting-next, counting-all}
use Rattle.permanova_sampling.proofs.hits.count_hits.Goals as goal
use Rattle.permanova_sampling.proofs.hits.count_hits.Goals.{In-loop-i, After-shuffle_labels}

pub loop-i-init : goal.loop-i-init
loop-i-init c = counting-none refl

-- the labels' room, and the front of it that was lent and comes back
room : (c : In-loop-i) → c.args.sizes.kept ≤ length c.loop-i.lab
room c = omega (arith, c.loop-i.invariant.room, c.requires.0.labelled.few)

labels : (c : After-shuffle_labels) → Back c.args.sizes.kept c.loop-i.lab c.shuffle_labels.new.lab
labels c = back _ _ _ (omega (arith, c.loop-i.invariant.room, c.requires.0.labelled.few)) c.shuffle_labels.auto.lab

pub slice_bounds-lab-end : goal.slice_bounds-lab-end
slice_bounds-lab-end c = room (goal.at.slice_bounds-lab-end c).In-loop-i

pub slice_bounds-shuffle_labels-end : goal.slice_bounds-shuffle_labels-end
slice_bounds-shuffle_labels-end c = sym (length-take-le _ _ (room (goal.at.slice_bounds-shuffle_labels-end c).In-loop-i))

pub shuffle_labels-requires : goal.shuffle_labels-requires
shuffle_labels-requires c = (c.requires.0, length-take-le _ _ (room (goal.at.shuffle_labels-requires c).In-loop-i))

pub slice_bounds-lab-end-in-loop-i : goal.slice_bounds-lab-end-in-loop-i
slice_bounds-lab-end-in-loop-i c = (labels (goal.at.slice_bounds-lab-end-in-loop-i c).After-shuffle_labels).fits

-- the labels that were dealt, and their groups
assigned : (c : After-shuffle_labels) → let out = c.shuffle_labels.new in let m = c.args.sizes.kept in
    Assigned c.args.sizes (take m (out.lab ++ drop m c.loop-i.lab)) out.groups.starts out.groups.members
assigned c =
    let out = c.shuffle_labels.new in
    subst (λ (l : List ℕ). Assigned c.args.sizes l out.groups.starts out.groups.members) (sym (labels c).front) c.shuffle_labels.ensures.assigned

pub location_hit-x-requires : goal.location_hit-x-requires
location_hit-x-requires c = (c.requires.1.pair_terms, c.requires.1.weights, (c.shuffle_labels.new.lab, c.shuffle_labels.ensures.assigned))

pub slice_bounds-dispersion_hit-end : goal.slice_bounds-dispersion_hit-end
slice_bounds-dispersion_hit-end c = sym (length-take-le _ _ (labels (goal.at.slice_bounds-dispersion_hit-end c).After-shuffle_labels).fits)

pub dispersion_hit-y-requires : goal.dispersion_hit-y-requires
dispersion_hit-y-requires c = (assigned (goal.at.dispersion_hit-y-requires c).After-shuffle_labels, c.requires.1.observed, c.requires.3)

pub loop-i-preserved : goal.loop-i-preserved
loop-i-preserved c =
    let dealt = labels (goal.at.loop-i-preserved c).After-shuffle_labels in
    counting-next c.loop-i.invariant c.loop-i-test.true dealt.whole (dealt.front ∙ c.shuffle_labels.ensures.shuffled)
    (c.location_hit-x.ensures _ (assigned (goal.at.loop-i-preserved c).After-shuffle_labels).members) c.dispersion_hit-y.ensures
    (added-one _ _ c.from.ensures refl) (added-one _ _ c.from-in-loop-i.ensures refl)

pub returns : goal.returns
returns c = counting-all c.loop-i.invariant (omega arith)
