-- `ordination_gram::columns::fill` meets its contract: after i turns the first i rows are written.
use Rattle.lists.proofs.Base.{◌≡◌, ◌-◌, ◌≤◌, length, nan}
use Rattle.lists.specs.{Ranges.rows, Writes.over}
use Rattle.ordination_gram.specs.inner.Columns.{entry_at}
use Rattle.ordination_gram.proofs.MirroredRows.{full}
use Rattle.ordination_gram.proofs.columns.fill.Given as goal

abbrev pub invariant-loop-i : goal.invariant-loop-i
invariant-loop-i l = (l.i ≤ l.n) × (length l.out ≡ length l.initial.out) × (l.out ≡ over (rows l.i (full (entry_at l.w l.words l.sums l.t) nan l.n)) l.initial.out)

abbrev pub decreases-loop-i : goal.decreases-loop-i
decreases-loop-i l = l.n - l.i
