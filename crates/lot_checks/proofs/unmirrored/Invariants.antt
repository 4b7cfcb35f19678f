-- `lot_checks::unmirrored` meets its contract. No row passed has an entry that differs from its mirror.
use Rattle.lists.proofs.Base.{◌≡◌, ◌-◌}
use Rattle.lists.specs.{Ranges.range, Filters.any}
use Rattle.lot.specs.Mirror as mirror
use Rattle.lot.specs.inner.Mirror.{row_unmirrored}
use Rattle.lot_checks.proofs.unmirrored.Given as goal

abbrev pub invariant-loop-i : goal.invariant-loop-i
invariant-loop-i l = any (row_unmirrored l.n l.distances) (range l.i l.n) ≡ mirror.unmirrored l.n l.distances

abbrev pub decreases-loop-i : goal.decreases-loop-i
decreases-loop-i l = l.n - l.i
