-- `eigen_vectors::dot` meets its contract. The invariant: with the products of the pairs still to come, s is the whole.
use Rattle.lists.proofs.Base.{length}
use Rattle.eigen_vectors.proofs.Entries.{Summing}
use Rattle.eigen_vectors.proofs.dot.Given as goal

abbrev pub invariant-loop-a : goal.invariant-loop-a
invariant-loop-a l = Summing l.x l.y l.s (length l.yielded)
