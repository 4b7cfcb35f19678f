-- `permanova_sums::row_sum` meets its contract. The terms from b on, added to s, are always the whole row.
use Rattle.lists.proofs.Base.{refl, arith}
use Rattle.lists.specs.{Rows.entry}
use Rattle.lists.proofs.Sums.{sum-turn, sum-end}
use Rattle.permanova_sums.specs.PairSums.{row_sum}
use Rattle.permanova_sums.proofs.row_sum.Goals as goal

pub loop-b-init : goal.loop-b-init
unfolding row_sum
loop-b-init c = (omega arith, refl)

pub cell-s-requires : goal.cell-s-requires
cell-s-requires c = (c.requires.0, c.requires.1, omega arith)

pub loop-b-preserved : goal.loop-b-preserved
loop-b-preserved c = (omega arith, sum-turn (entry _ _ _) _ _ _ (omega arith) c.cell-s.ensures refl c.loop-b.invariant.1)

pub returns : goal.returns
returns c = sum-end (entry _ _ _) _ _ _ (omega arith) c.loop-b.invariant.1
