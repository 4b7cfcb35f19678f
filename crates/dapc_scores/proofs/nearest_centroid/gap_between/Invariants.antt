-- `dapc_scores::nearest_centroid::gap_between` meets its contract. What is left of the sum stays the same.
use Rattle.lists.proofs.Base.{◌≤◌, length}
use Rattle.dapc_scores.proofs.Nearing.{Summing}
use Rattle.dapc_scores.proofs.nearest_centroid.gap_between.Given as goal

abbrev pub invariant-loop-k : goal.invariant-loop-k
invariant-loop-k l = (l.k ≤ length l.x) × Summing l.x l.y l.s l.k
