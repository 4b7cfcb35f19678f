-- `dapc_discriminant::allocation::write_scores` meets its contract. The output is filled in two parts, each lent by itself.
use Rattle.lists.proofs.Base.{sym, ◌∙◌, ◌*◌, ◌≤◌, arith, length, take, length-take-le}
use Rattle.dapc_discriminant.proofs.AllocationOutputs.{both-written, length-scores}
use Rattle.dapc_discriminant.proofs.allocation.write_scores.Goals as goal

pub copy_from_slice-requires : goal.copy_from_slice-requires
copy_from_slice-requires c =
    let fits : c.args.samples.sizes.axes ≤ length c.args.out.now = omega (arith, c.requires.room) in
    length-take-le _ _ fits ∙ sym (length-take-le _ _ c.requires.values)

pub returns : goal.returns
returns c =
    let a = c.args in
    let s = a.samples in
    let d = s.sizes in
    let n = length s.groups.now in
    both-written d.axes (n * d.axes) a.out.now (take d.axes a.ev.now) _ c.requires.room (length-take-le d.axes a.ev.now c.requires.values)
    (length-scores n d.columns d.lead d.axes s.x.now a.mean.now a.vs.now) c.copy_from_slice.ensures.after c.fill_scores.ensures
