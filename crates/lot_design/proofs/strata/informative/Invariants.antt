-- `lot_design::strata::informative` meets its contract. What is left to count and what is counted are all.
use Rattle.lists.proofs.Base.{◌≡◌, ◌+◌, ◌≤◌, length}
use Rattle.lists.specs.{Ranges.range, Filters.count_if}
use Rattle.lot.specs.Strata.{informative}
use Rattle.lot_design.specs.inner.Told.{Told}
use Rattle.lot_design.proofs.LoopTurns.{at}
use Rattle.lot_design.proofs.strata.informative.Given as goal

abbrev pub invariant-loop-k : goal.invariant-loop-k
invariant-loop-k l = (l.k ≤ length l.ss) × (l.count ≤ l.k) × (l.count + count_if (at l.ss l.gs) (range l.k (length l.ss)) ≡ informative l.ss l.gs (length l.ss)) × Told l.ss l.gs l.k l.told
