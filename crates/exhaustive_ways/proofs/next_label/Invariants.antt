-- `exhaustive_ways::next_label` meets its contract. None of the labels before i is left.
use Rattle.lists.proofs.Base.{◌≡◌, ◌+◌, ◌*◌, ◌≤◌, length, get_or}
use Rattle.exhaustive_ways.proofs.WayOrder.{Passed}
use Rattle.exhaustive_ways.proofs.next_label.Given as goal

abbrev pub invariant-loop-i : goal.invariant-loop-i
invariant-loop-i l = (l.row ≡ get_or l.ss l.at 0 * l.g) × (l.row + l.g ≤ length l.counts) × Passed l.g l.counts l.row l.j l.i
