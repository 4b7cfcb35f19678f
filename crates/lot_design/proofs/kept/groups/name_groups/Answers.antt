-- `lot_design::kept::groups::name_groups` meets its contract. The labels of the kept samples, gathered, give way to their groups.
use Rattle.lists.proofs.Base.{sym, ap, subst, arith, length, length-take-le}
use Rattle.lists.specs.inner.Numbers.{Below}
use Rattle.lot.proofs.Samples.{kept-below, kept-few, front-few, named-groups, numbered-groups}
use Rattle.lot_design.proofs.kept.groups.name_groups.Goals as goal

pub gather-requires : goal.gather-requires
gather-requires c = (
  subst (Below (length c.args.labels.now)) (sym c.requires.1) (kept-below _),
  omega (arith, ap length c.requires.1, kept-few c.args.labels.now),
)

pub slice_bounds-number_labels-end : goal.slice_bounds-number_labels-end
slice_bounds-number_labels-end c = omega (arith, ap length c.requires.1, kept-few c.args.labels.now, c.gather.auto.out)

pub slice_bounds-number_labels-end-2 : goal.slice_bounds-number_labels-end-2
slice_bounds-number_labels-end-2 c =
    let gather-done = c.gather in
    sym (length-take-le _ _ (omega (arith, ap length c.requires.1, kept-few c.args.labels.now, gather-done.auto.out)))

pub number_labels-requires : goal.number_labels-requires
number_labels-requires c =
    let gather-done = c.gather in
    let few = front-few c.args.labels.now c.args.ks.now c.args.gs.now gather-done.new.out c.requires.1 gather-done.ensures in
    (omega arith, omega arith)

pub returns : goal.returns
returns c =
    let gather-done = c.gather in
    let number-labels-done = c.number_labels in (
      named-groups _ _ _ _ c.requires.1 gather-done.ensures number-labels-done.ensures.0,
      numbered-groups _ _ _ _ c.requires.1 gather-done.ensures number-labels-done.ensures.1,
    )
