-- `permanova_location::group_within` meets its contract. The pair sum divided by the weight sum, or the smallest normal number.
use Rattle.lists.proofs.Base.{arith}
use Rattle.permanova_location.proofs.GroupSums.{group-is}
use Rattle.permanova_location.proofs.group_within.Goals as goal

pub over_weight-requires : goal.over_weight-requires
over_weight-requires c = λ x h. omega (arith, c.requires.2 x h)

pub returns : goal.returns
returns c =
    let args = c.args in
    group-is args.t.now args.w.now args.m args.mem.now c.pair_sum.ensures c.over_weight.ensures
