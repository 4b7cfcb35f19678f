-- `ordination_hashes::columns::fill_starts` meets its contract: i hashes are passed.
use Rattle.lists.proofs.Base.{◌≤◌, length}
use Rattle.ordination_hashes.proofs.columns.fill_starts.Given as goal

abbrev pub invariant-loop-p : goal.invariant-loop-p
invariant-loop-p l = l.i ≤ length l.hashes
