-- `permanova_sums::row_sum` meets its contract. The terms from b on, added to s, are always the whole row.
use Rattle.lists.proofs.Base.{◌≡◌, map, ◌<◌}
use Rattle.lists.specs.{Ranges.range, Sums.sum_from, Rows.entry}
use Rattle.permanova_sums.specs.PairSums.{row_sum}
use Rattle.permanova_sums.proofs.row_sum.Given as goal

abbrev pub invariant-loop-b : goal.invariant-loop-b
invariant-loop-b l = (l.a < l.b) × (sum_from l.s (map (entry l.m l.t l.a) (range l.b l.m)) ≡ row_sum l.t l.m l.a)
