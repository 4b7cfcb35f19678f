-- `permanova_sums::sum_entries` meets its contract. The entries at the samples still to come, added to u, are always the whole sum.
use Rattle.lists.proofs.Base.{◌≡◌, map, drop}
use Rattle.lists.specs.{Sums.sum_from, Rows.entry}
use Rattle.permanova_sums.proofs.sum_entries.Given as goal

abbrev pub invariant-loop-b : goal.invariant-loop-b
invariant-loop-b l = sum_from l.u (map (entry l.m l.t l.a) (drop l.b-index l.mem)) ≡ sum_from l.s (map (entry l.m l.t l.a) l.mem)
