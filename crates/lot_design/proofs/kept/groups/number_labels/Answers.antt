-- `lot_design::kept::groups::number_labels` meets its contract. The labels' places are looked up in the groups' labels.
use Rattle.lists.proofs.Base.{ap, ◌∙◌, List, map, ℕ, ◌≤◌, arith, length}
use Rattle.lists.specs.Numbers.{position}
use Rattle.lot.proofs.{FilledFronts.filled-long, FilledFronts.filled-front, FilledFronts.filled-part, Inserts.length-upward}
use Rattle.lot_design.proofs.kept.groups.number_labels.Goals as goal

pub slice_bounds-number_by-end : goal.slice_bounds-number_by-end
slice_bounds-number_by-end c =
    let few : c.fill_upward-g.result ≤ length c.args.ns.now = omega (arith, c.fill_upward-g.ensures.many, length-upward c.args.labels.now) in
    omega (arith, filled-long _ c.fill_upward-g.ensures few)

pub slice_bounds-number_by-end-2 : goal.slice_bounds-number_by-end-2
slice_bounds-number_by-end-2 c = filled-part _ c.fill_upward-g.ensures

pub number_by-requires : goal.number_by-requires
number_by-requires c =
    let fill-upward-done = c.fill_upward-g in
    omega (arith, filled-part _ fill-upward-done.ensures, fill-upward-done.ensures.many, length-upward c.args.labels.now)

pub returns : goal.returns
returns c =
    let fill-upward-done = c.fill_upward-g in (
      fill-upward-done.ensures,
      c.number_by.ensures ∙ ap (λ (ns : List ℕ). map (λ l. position l ns) c.args.labels.now) (filled-front _ fill-upward-done.ensures),
    )
