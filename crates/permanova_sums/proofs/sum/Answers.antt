-- `permanova_sums::sum` meets its contract. What is left, added to s, is always the whole sum.
use Rattle.lists.proofs.Base.{refl, arith, nan}
use Rattle.lists.proofs.Sums.{floats-turn, floats-end}
use Rattle.permanova_sums.proofs.sum.Goals as goal

pub loop-x-preserved : goal.loop-x-preserved
loop-x-preserved c = floats-turn _ c.args.w.now c.loop-x.x-index nan (omega arith) refl refl c.loop-x.invariant

pub returns : goal.returns
returns c = floats-end _ c.args.w.now c.loop-x.x-index (omega arith) c.loop-x.invariant
