-- `permanova_sums::sum_at` meets its contract. The numbers of the samples still to come, added to u, are always the whole sum.
use Rattle.lists.proofs.Base.{refl, arith}
use Rattle.lists.proofs.Sums.{list-turn, list-end}
use Rattle.permanova_sums.specs.PairSums.{at}
use Rattle.permanova_sums.proofs.sum_at.Goals as goal

pub offset_bounds-w-a : goal.offset_bounds-w-a
offset_bounds-w-a c = omega (arith, c.requires c.loop-a.a-index (omega arith))

pub bounds-w-a : goal.bounds-w-a
bounds-w-a c = c.requires c.loop-a.a-index (omega arith)

pub loop-a-preserved : goal.loop-a-preserved
loop-a-preserved c = list-turn (at c.args.w.now) _ c.args.mem.now c.loop-a.a-index 0 (omega arith) refl refl c.loop-a.invariant

pub returns : goal.returns
returns c = list-end (at c.args.w.now) _ c.args.mem.now c.loop-a.a-index (omega arith) c.loop-a.invariant
