-- `permanova_sums::rows_sum` meets its contract. The rows from a on, added to s, are always the whole sum.
use Rattle.lists.proofs.Base.{◌≡◌, map}
use Rattle.lists.specs.{Ranges.range, Sums.sum_from}
use Rattle.permanova_sums.specs.PairSums.{row_sum, rows_sum}
use Rattle.permanova_sums.proofs.rows_sum.Given as goal

abbrev pub invariant-loop-a : goal.invariant-loop-a
invariant-loop-a l = sum_from l.s (map (row_sum l.t l.m) (range l.a l.m)) ≡ rows_sum l.t l.m
