-- `lot_design::kept::groups::group` meets its contract. The kept samples are filled in, and then their groups.
use Rattle.lists.proofs.Base.{◌≤◌, arith, length}
use Rattle.lot.proofs.{FilledFronts.filled-long, FilledFronts.filled-front, FilledFronts.filled-part, Samples.kept-few}
use Rattle.lot_design.proofs.kept.groups.group.Goals as goal

pub slice_bounds-name_groups-end : goal.slice_bounds-name_groups-end
slice_bounds-name_groups-end c =
    let few : c.fill_kept-m.result ≤ length c.args.ks.now = omega (arith, c.fill_kept-m.ensures.many, kept-few c.args.labels.now) in
    omega (arith, filled-long _ c.fill_kept-m.ensures few)

pub slice_bounds-name_groups-end-2 : goal.slice_bounds-name_groups-end-2
slice_bounds-name_groups-end-2 c = filled-part _ c.fill_kept-m.ensures

pub name_groups-g-requires : goal.name_groups-g-requires
name_groups-g-requires c = (c.requires.0, filled-front _ c.fill_kept-m.ensures, c.requires.2, c.requires.3)
