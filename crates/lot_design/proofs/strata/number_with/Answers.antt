-- `lot_design::strata::number_with` meets its contract. The strata are named, and then numbered by their places.
use Rattle.lists.proofs.Base.{◌≤◌, arith, length}
use Rattle.lot.proofs.{FilledFronts.filled-long, FilledFronts.filled-front, FilledFronts.filled-part, Numbering.length-named}
use Rattle.lot_design.proofs.strata.number_with.Goals as goal

pub slice_bounds-number_by-end : goal.slice_bounds-number_by-end
slice_bounds-number_by-end c =
    let fill-named-done = c.fill_named-k in
    let few : fill-named-done.result ≤ length c.args.ns.now = omega (arith, fill-named-done.ensures.many, length-named c.args.held.now) in
    omega (arith, filled-long _ fill-named-done.ensures few)

pub slice_bounds-number_by-end-2 : goal.slice_bounds-number_by-end-2
slice_bounds-number_by-end-2 c = filled-part _ c.fill_named-k.ensures

pub number_by-requires : goal.number_by-requires
number_by-requires c = (filled-front _ c.fill_named-k.ensures, c.requires.0)
