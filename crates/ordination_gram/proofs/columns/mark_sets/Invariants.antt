-- `ordination_gram::columns::mark_sets` meets its contract: after i turns the rows and the sums of the first i sets are written.
use Rattle.lists.proofs.Base.{◌≡◌, ◌-◌, ◌≤◌, length}
use Rattle.lists.specs.{Ranges.rows, Writes.over}
use Rattle.lists.proofs.{Writes.Writing}
use Rattle.ordination_gram.proofs.{Marks.bits_of, Marks.sum_of}
use Rattle.ordination_gram.proofs.columns.mark_sets.Given as goal

abbrev pub invariant-loop-i : goal.invariant-loop-i
invariant-loop-i l = (l.i ≤ l.n) × (length l.words ≡ length l.initial.words)
    × (l.words ≡ over (rows l.i (bits_of l.hashes l.offsets l.w l.columns.hashes.now l.columns.means.now)) l.initial.words)
    × Writing (sum_of l.hashes l.offsets l.columns.hashes.now l.columns.means.now) l.initial.sums l.sums l.i

abbrev pub decreases-loop-i : goal.decreases-loop-i
decreases-loop-i l = l.n - l.i
