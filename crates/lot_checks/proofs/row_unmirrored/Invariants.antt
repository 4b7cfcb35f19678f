-- `lot_checks::row_unmirrored` meets its contract. No entry passed differs from its mirror, and then the diagonal decides.
use Rattle.lists.proofs.Base.{◌≡◌, ◌||◌, ◌-◌}
use lib.Ieee.{ne}
use Rattle.float.specs.Floats.{zero⁺}
use Rattle.lists.specs.{Ranges.range, Rows.entry, Filters.any}
use Rattle.lot.specs.inner.Mirror.{row_unmirrored}
use Rattle.lot_checks.proofs.row_unmirrored.Given as goal

abbrev pub invariant-loop-j : goal.invariant-loop-j
invariant-loop-j l = (any (λ j. ne (entry l.n l.distances l.i j) (entry l.n l.distances j l.i)) (range l.j l.i) || ne (entry l.n l.distances l.i l.i) zero⁺) ≡ row_unmirrored l.n l.distances l.i

abbrev pub decreases-loop-j : goal.decreases-loop-j
decreases-loop-j l = l.i - l.j
