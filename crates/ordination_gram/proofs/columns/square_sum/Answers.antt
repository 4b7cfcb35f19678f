-- `ordination_gram::columns::square_sum` meets its contract: the squares that are left, added to s, give the whole sum.
use Rattle.lists.proofs.Base.{refl, arith, nan}
use Rattle.lists.proofs.Sums.{list-turn, list-end}
use Rattle.ordination_gram.specs.inner.Columns.{square}
use Rattle.ordination_gram.proofs.columns.square_sum.Goals as goal

pub loop-x-preserved : goal.loop-x-preserved
loop-x-preserved c =
    let here = c.loop-x in
    list-turn square here.s c.args.means.now here.x-index nan (omega arith) refl refl here.invariant

pub returns : goal.returns
returns c = list-end square c.loop-x.s c.args.means.now c.loop-x.x-index (omega arith) c.loop-x.invariant
