-- `lot_design::fill_group_labels` meets its contract. The names go over the front.
use Rattle.lists.proofs.Base.{◌≡◌, sym, ◌∙◌, ◌≤◌, arith, rules, length, length-take-le}
use Rattle.lot_design.proofs.Designs.{named-over}
use Rattle.lot_design.proofs.fill_group_labels.Goals as goal

pub slice_bounds-copy_from_slice-end-2 : goal.slice_bounds-copy_from_slice-end-2
slice_bounds-copy_from_slice-end-2 c = sym (length-take-le _ _ c.requires.1)

pub slice_bounds-copy_from_slice-end-3 : goal.slice_bounds-copy_from_slice-end-3
slice_bounds-copy_from_slice-end-3 c =
    let names-fit-here : c.args.d.groups ≤ length c.args.d.labels = let long : length c.args.d.labels ≡ 256 = search rules in omega arith in
    sym (length-take-le _ _ names-fit-here)

pub copy_from_slice-requires : goal.copy_from_slice-requires
copy_from_slice-requires c =
    let names-fit-here : c.args.d.groups ≤ length c.args.d.labels = let long : length c.args.d.labels ≡ 256 = search rules in omega arith in
    length-take-le _ _ c.requires.1 ∙ sym (length-take-le _ _ names-fit-here)

pub returns : goal.returns
returns c =
    let names-fit-here : c.args.d.groups ≤ length c.args.d.labels = let long : length c.args.d.labels ≡ 256 = search rules in omega arith in
    named-over _ c.args.out.now names-fit-here c.copy_from_slice.ensures.after
