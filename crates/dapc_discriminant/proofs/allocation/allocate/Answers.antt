-- `dapc_discriminant::allocation::allocate` meets its contract. Directions, scores, groups.
use Rattle.lists.proofs.Base.{sym, ap, ◌∙◌, List, ◌*◌, arith, length, replicate, length-take-le, Float}
use Rattle.float.specs.Floats.{zero⁺}
use Rattle.lists.proofs.{Rows.part-rest, Parts.take-replicate}
use Rattle.lists.proofs.Fronts.{Back, back}
use Rattle.dapc_cholesky.specs.Triangular.{solve_rows}
use Rattle.dapc_discriminant.proofs.AllocationOutputs.{located, length-vectors, axes-few, directions-fit, centroids-fit}
use Rattle.dapc_discriminant.proofs.allocation.allocate.Goals as goal
use Rattle.dapc_discriminant.proofs.allocation.allocate.Goals.{After-solve_rows}

-- the directions stand at the front of an array of zeros
abbrev zeros : List Float
zeros = replicate 256 zero⁺

directions : (c : After-solve_rows) → Back (c.args.samples.sizes.axes * c.args.samples.sizes.lead) zeros c.solve_rows.new.dst
directions c = back (c.args.samples.sizes.axes * c.args.samples.sizes.lead) zeros c.solve_rows.new.dst (directions-fit c.requires.fitting) c.solve_rows.auto.dst

pub overflow_mul-e : goal.overflow_mul-e
overflow_mul-e c = omega (arith, centroids-fit c.requires.fitting)

pub slice_bounds-vs-end : goal.slice_bounds-vs-end
slice_bounds-vs-end c = directions-fit c.requires.fitting

pub slice_bounds-solve_rows-end : goal.slice_bounds-solve_rows-end
slice_bounds-solve_rows-end c = sym (length-take-le _ _ (directions-fit c.requires.fitting))

pub solve_rows-requires : goal.solve_rows-requires
solve_rows-requires c =
    let d = c.args.samples.sizes in
    let p = d.lead in
    (take-replicate (d.axes * p) 256 zero⁺ (directions-fit c.requires.fitting), c.requires.factor, length-vectors p (p * p) c.args.ev.now c.requires.pairs, axes-few c.requires.fitting)

pub slice_bounds-vs-end-2 : goal.slice_bounds-vs-end-2
slice_bounds-vs-end-2 c = (directions (goal.at.slice_bounds-vs-end-2 c).After-solve_rows).fits

pub slice_bounds-write_scores-end-2 : goal.slice_bounds-write_scores-end-2
slice_bounds-write_scores-end-2 c = sym (length-take-le _ _ (directions (goal.at.slice_bounds-write_scores-end-2 c).After-solve_rows).fits)

pub write_scores-requires : goal.write_scores-requires
write_scores-requires c =
    let pre = c.requires in
    record {
      room = pre.fitting.room;
      row = length-take-le _ _ c.args.samples.narrow;
      values = omega (arith, pre.pairs, axes-few pre.fitting);
      directions = length-take-le _ _ (directions (goal.at.write_scores-requires c).After-solve_rows).fits;
      means = pre.means;
    }

pub slice_bounds-cen-end : goal.slice_bounds-cen-end
slice_bounds-cen-end c = centroids-fit c.requires.fitting

pub slice_bounds-assign_groups-end : goal.slice_bounds-assign_groups-end
slice_bounds-assign_groups-end c = sym (length-take-le _ _ (centroids-fit c.requires.fitting))

pub assign_groups-requires : goal.assign_groups-requires
assign_groups-requires c =
    let f = c.requires.fitting in
    let d = c.args.samples.sizes in
    record {
      room = omega (arith, f.room, c.write_scores.auto.out);
      places = f.places;
      centroids = take-replicate (d.groups * d.axes) 2048 zero⁺ (centroids-fit f);
      counted = c.requires.counted;
    }

pub returns : goal.returns
returns c =
    let a = c.args in
    let s = a.samples in
    let d = s.sizes in
    let f = c.requires.fitting in
    located (length s.groups.now) d.columns d.lead d.axes d.groups s.x.now s.groups.now a.mean.now a.l.now a.ev.now a.out.now a.assigned.now
    f.axial (axes-few f) (omega (arith, c.requires.pairs))
    ((directions (goal.at.returns c).After-solve_rows).front ∙ c.solve_rows.ensures ∙ ap (solve_rows d.axes d.lead a.l.now) (part-rest a.ev.now d.lead))
    c.write_scores.ensures c.assign_groups.ensures
