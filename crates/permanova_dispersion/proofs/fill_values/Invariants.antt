-- `permanova_dispersion::fill_values` meets its contract. After a turns the first a entries are values.
use Rattle.lists.proofs.Writes.{Writing}
use Rattle.permanova_dispersion.specs.inner.Parted.{value_by}
use Rattle.permanova_dispersion.proofs.fill_values.Given as goal

abbrev pub invariant-loop-a : goal.invariant-loop-a
invariant-loop-a l = Writing (value_by l.weighted_squares l.lab l.m l.groups.starts l.groups.members l.gw l.gi) l.initial.z l.z l.a
