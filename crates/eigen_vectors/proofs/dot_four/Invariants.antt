-- `eigen_vectors::dot_four` meets its contract. The invariant: with the products from entry k on, each of the four sums is the whole.
use Rattle.eigen_vectors.proofs.Entries.{Summing}
use Rattle.eigen_vectors.proofs.dot_four.Given as goal

abbrev pub invariant-loop-k : goal.invariant-loop-k
invariant-loop-k l = Summing l.a l.x l.t l.k × Summing l.b l.x l.u l.k × Summing l.c l.x l.v l.k × Summing l.d l.x l.w l.k
