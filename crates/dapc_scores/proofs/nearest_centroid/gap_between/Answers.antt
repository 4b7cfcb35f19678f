-- `dapc_scores::nearest_centroid::gap_between` meets its contract. What is left of the sum stays the same.
use Rattle.lists.proofs.Base.{refl, arith}
use Rattle.dapc_scores.proofs.Nearing.{summing-none, summing-turn, summing-all}
use Rattle.dapc_scores.proofs.nearest_centroid.gap_between.Goals as goal

pub loop-k-init : goal.loop-k-init
loop-k-init c = (omega arith, summing-none c.args.x.now c.args.y.now)

pub loop-k-preserved : goal.loop-k-preserved
loop-k-preserved c = (omega arith, summing-turn c.args.x.now c.args.y.now c.loop-k-test.true refl refl refl c.loop-k.invariant.1)

pub returns : goal.returns
returns c = summing-all c.args.x.now c.args.y.now c.loop-k-test.false c.loop-k.invariant.1
