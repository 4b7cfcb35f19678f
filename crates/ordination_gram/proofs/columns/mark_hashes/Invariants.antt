-- `ordination_gram::columns::mark_hashes` meets its contract: the row has the columns of the members passed, and s the sum of their means.
use Rattle.lists.proofs.Base.{◌≡◌, map, length}
use Rattle.ordination_hashes.specs.inner.Columns.{column_of}
use Rattle.ordination_gram.proofs.Marks.{Marking}
use Rattle.ordination_gram.proofs.columns.mark_hashes.Given as goal

abbrev pub invariant-loop-h : goal.invariant-loop-h
invariant-loop-h l = (length l.row ≡ length l.initial.row) × Marking l.columns.means.now (map (column_of l.columns.hashes.now) l.set) (length l.initial.row) l.row l.s l.h-index
