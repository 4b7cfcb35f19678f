-- `permanova_dispersion::fill_values` meets its contract. After a turns the first a entries are values.
use Rattle.lists.proofs.Base.{arith}
use Rattle.lists.proofs.Writes.{writing-none, writing-next, writing-table}
use Rattle.permanova_dispersion.proofs.fill_values.Goals as goal

pub loop-a-init : goal.loop-a-init
loop-a-init c = writing-none _ _

pub value_at-requires : goal.value_at-requires
value_at-requires c = let pre = c.requires in (pre.0, pre.1, pre.2, pre.3, pre.4, pre.5, omega arith)

pub offset_bounds-z-a : goal.offset_bounds-z-a
offset_bounds-z-a c = omega (arith, c.loop-a.invariant.long)

pub bounds-z-a : goal.bounds-z-a
bounds-z-a c = omega (arith, c.loop-a.invariant.long)

pub loop-a-preserved : goal.loop-a-preserved
loop-a-preserved c = writing-next _ _ c.loop-a.invariant (omega arith) c.value_at.ensures

pub shape_of-z : goal.shape_of-z
shape_of-z c = c.loop-a.invariant.long

pub returns : goal.returns
returns c = writing-table _ _ c.loop-a.invariant c.requires.6 (omega arith)
