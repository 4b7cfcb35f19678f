-- `permanova_dispersion::value_at` meets its contract. The group of a is one of g.
use Rattle.lists.proofs.Base.{◌<◌, arith}
use Rattle.grouping.proofs.SortedParts.{part-there, part-below}
use Rattle.permanova_dispersion.specs.inner.Parted.{value_by}
use Rattle.permanova_dispersion.proofs.value_at.Goals as goal

pub part-p-requires : goal.part-p-requires
part-p-requires c =
    let group-below : c.entry-l.result < c.args.g = omega (arith, c.entry-l.ensures, c.requires.2 c.args.a (omega arith)) in
    part-there _ _ _ _ _ c.requires.3 group-below

pub weighted_square_sum-sum-requires : goal.weighted_square_sum-sum-requires
weighted_square_sum-sum-requires c =
    let group-below : c.entry-l.result < c.args.g = omega (arith, c.entry-l.ensures, c.requires.2 c.args.a (omega arith)) in
    (c.requires.0, part-below _ _ _ _ _ _ c.requires.3 group-below c.part-p.ensures.items, c.requires.6)

pub offset_bounds-gw-l : goal.offset_bounds-gw-l
offset_bounds-gw-l c = omega (arith, c.entry-l.ensures, c.requires.2 c.args.a (omega arith))

pub bounds-gw-l : goal.bounds-gw-l
bounds-gw-l c = omega (arith, c.entry-l.ensures, c.requires.2 c.args.a (omega arith))

pub offset_bounds-gi-l : goal.offset_bounds-gi-l
offset_bounds-gi-l c = omega (arith, c.entry-l.ensures, c.requires.2 c.args.a (omega arith))

pub bounds-gi-l : goal.bounds-gi-l
bounds-gi-l c = omega (arith, c.entry-l.ensures, c.requires.2 c.args.a (omega arith))

pub returns : goal.returns
unfolding value_by
returns c = rw (c.value_of.ensures, c.weighted_square_sum-sum.ensures, c.part-p.ensures.items, c.entry-l.ensures)
