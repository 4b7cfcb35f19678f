-- `dapc_scores::nearest_centroid::nearest` meets its contract. After j turns the best of the first j is known.
use Rattle.lists.proofs.Base.{◌≡◌, ◌*◌, ◌+◌, ◌≤◌, sym, ◌∙◌, arith, length, take, length-take-le}
use Rattle.lists.proofs.Rows.{row-end, length_part}
use Rattle.dapc_scores.specs.Assigned.{gaps}
use Rattle.dapc_scores.proofs.Nearing.{nearing-first, nearing-next, nearing-all, gap-first, gap-part}
use Rattle.dapc_scores.proofs.nearest_centroid.nearest.Goals as goal

pub gap_between-first-requires : goal.gap_between-first-requires
gap_between-first-requires c =
    let first-long-here : length (take c.args.axes c.args.cen.now) ≡ c.args.axes = length-take-le c.args.axes c.args.cen.now (omega (arith, row-end c.args.axes 0 c.args.g c.requires.2)) in
    first-long-here ∙ sym c.requires.0

pub loop-j-init : goal.loop-j-init
loop-j-init c =
    nearing-first _ _ c.requires.2 (c.gap_between-first.ensures ∙ gap-first c.args.axes c.args.row.now c.args.cen.now c.requires.0) c.is_nan.ensures.value

pub gap_between-d-requires : goal.gap_between-d-requires
gap_between-d-requires c =
    let row_fits-here : let a = c.args in c.loop-j.j * a.axes + a.axes ≤ length a.cen.now = omega (arith, row-end c.args.axes _ _ c.loop-j-test.true) in
    length_part c.args.axes c.loop-j.j c.args.cen.now row_fits-here ∙ sym c.requires.0

pub loop-j-preserved : goal.loop-j-preserved
loop-j-preserved c =
    nearing-next _ _ c.loop-j.invariant c.loop-j-test.true
    (c.gap_between-d.ensures ∙ gap-part c.args.axes c.args.row.now c.args.cen.now c.requires.0 c.loop-j.j)
    c.nearer-b.ensures.0 c.nearer-b.ensures.1 c.nearer-b.ensures.2

pub returns : goal.returns
unfolding gaps
returns c = let r = nearing-all _ _ c.loop-j.invariant c.loop-j-test.false in (r.0, c.loop-j.invariant.below, r.1)
