-- `permanova_sums::add_pairs` meets its contract. In each list the pairs from x on, added to its sum, are always the whole sum.
use Rattle.lists.proofs.Base.{refl, arith}
use Rattle.lists.specs.{Rows.entry}
use Rattle.lists.proofs.Sums.{pairs-turn, pairs_end}
use Rattle.permanova_sums.specs.inner.PairSums.{later_pair_terms}
use Rattle.permanova_sums.proofs.add_pairs.Goals as goal

pub loop-x-init : goal.loop-x-init
loop-x-init c = (refl, refl)

pub loop-x-preserved : goal.loop-x-preserved
unfolding later_pair_terms
loop-x-preserved c =
    let args = c.args in
    let loop = c.loop-x in
    let sums = c.pairs_with_both-r.ensures in (
      pairs-turn (entry _ _) _ args.p.now loop.x 0 (omega arith) sums.0 loop.invariant.0,
      pairs-turn (entry _ _) _ args.q.now loop.x 0 (omega arith) sums.1 loop.invariant.1,
    )

pub returns : goal.returns
returns c =
    let args = c.args in
    let loop = c.loop-x in (
      pairs_end (entry _ _) _ args.p.now loop.x (omega arith) loop.invariant.0,
      pairs_end (entry _ _) _ args.q.now loop.x (omega arith) loop.invariant.1,
    )
