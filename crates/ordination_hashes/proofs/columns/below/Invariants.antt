-- `ordination_hashes::columns::below` meets its contract: the numbers before lo are below h, and those `left` places on are not.
use Rattle.lists.proofs.Base.{◌+◌}
use Rattle.ordination_hashes.proofs.Lookup.{Narrowed}
use Rattle.ordination_hashes.proofs.columns.below.Given as goal

abbrev pub invariant-loop-left : goal.invariant-loop-left
invariant-loop-left l = Narrowed l.h l.hashes l.lo (l.lo + l.left)

abbrev pub decreases-loop-left : goal.decreases-loop-left
decreases-loop-left l = l.left
