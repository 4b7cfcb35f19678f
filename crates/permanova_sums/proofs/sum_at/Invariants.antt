-- `permanova_sums::sum_at` meets its contract. The numbers of the samples still to come, added to u, are always the whole sum.
use Rattle.lists.proofs.Base.{◌≡◌, map, drop}
use Rattle.lists.specs.{Sums.sum_from}
use Rattle.permanova_sums.specs.PairSums.{at}
use Rattle.permanova_sums.proofs.sum_at.Given as goal

abbrev pub invariant-loop-a : goal.invariant-loop-a
invariant-loop-a l = sum_from l.u (map (at l.w) (drop l.a-index l.mem)) ≡ sum_from l.s (map (at l.w) l.mem)
