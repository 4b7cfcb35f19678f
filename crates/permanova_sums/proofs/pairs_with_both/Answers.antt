-- `permanova_sums::pairs_with_both` meets its contract. In each list the later members are their own part, and both parts are of one length.
use Rattle.lists.proofs.Base.{refl, ◌+◌, arith}
use Rattle.permanova_sums.proofs.LaterMembers.{below_rest, length_rest, sum-later}
use Rattle.permanova_sums.proofs.pairs_with_both.Goals as goal

pub sum_rows-requires : goal.sum_rows-requires
sum_rows-requires c =
    let args = c.args in
    let pre = c.requires in
    let p = args.p.now in
    let q = args.q.now in
    let k = args.x + 1 in
    (pre.0, below_rest args.m p k pre.1, below_rest args.m q k pre.2, omega (arith, length_rest p k, length_rest q k), pre.1 args.x (omega arith), pre.2 args.x (omega arith))

pub returns : goal.returns
returns c =
    let args = c.args in
    let t = args.t.now in
    (sum-later t args.m args.p.now args.x args.s refl c.sum_rows.ensures.0, sum-later t args.m args.q.now args.x args.u refl c.sum_rows.ensures.1)
