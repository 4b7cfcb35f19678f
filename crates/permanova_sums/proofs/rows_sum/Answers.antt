-- `permanova_sums::rows_sum` meets its contract. The rows from a on, added to s, are always the whole sum.
use Rattle.lists.proofs.Base.{refl, arith}
use Rattle.lists.proofs.Sums.{sum-turn, sum-end}
use Rattle.permanova_sums.specs.PairSums.{row_sum, rows_sum}
use Rattle.permanova_sums.proofs.rows_sum.Goals as goal

pub loop-a-init : goal.loop-a-init
unfolding rows_sum
loop-a-init c = refl

pub row_sum-s-requires : goal.row_sum-s-requires
row_sum-s-requires c = (c.requires, omega arith)

pub loop-a-preserved : goal.loop-a-preserved
loop-a-preserved c = sum-turn (row_sum _ _) _ _ _ (omega arith) c.row_sum-s.ensures refl c.loop-a.invariant

pub returns : goal.returns
returns c = sum-end (row_sum _ _) _ _ _ (omega arith) c.loop-a.invariant
