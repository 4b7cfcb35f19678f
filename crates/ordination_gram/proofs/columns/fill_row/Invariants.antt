-- `ordination_gram::columns::fill_row` meets its contract: after the turn at j the entries from i to j are written.
use Rattle.lists.proofs.Base.{◌≡◌, map, ◌++◌, ◌≤◌, length, take}
use Rattle.lists.specs.{Ranges.range, Writes.over}
use Rattle.ordination_gram.specs.inner.Columns.{entry_at}
use Rattle.ordination_gram.proofs.columns.fill_row.Given as goal

abbrev pub invariant-loop-j : goal.invariant-loop-j
invariant-loop-j l = (l.i ≤ l.j) × (l.j ≤ length l.initial.row) × (length l.row ≡ length l.initial.row)
    × (l.row ≡ over (take l.i l.initial.row ++ map (entry_at l.w l.words l.sums l.t l.i) (range l.i l.j)) l.initial.row)
