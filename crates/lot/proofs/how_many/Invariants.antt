-- `lot::how_many` meets its contract. What is left to count and what is counted are all.
use Rattle.lists.proofs.Base.{◌≡◌, ◌+◌, ◌≤◌, eqb, length, drop}
use Rattle.lists.specs.{Filters.count_if, Numbers.how_many}
use Rattle.lot.proofs.how_many.Given as goal

abbrev pub invariant-loop-i : goal.invariant-loop-i
invariant-loop-i l = (l.i ≤ length l.labels) × (l.count ≤ l.i) × (l.count + count_if (eqb l.l) (drop l.i l.labels) ≡ how_many l.l l.labels)
