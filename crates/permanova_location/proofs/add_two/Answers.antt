-- `permanova_location::add_two` meets its contract. Each pair sum is divided by its own group's weight sum, or the smallest normal number.
use Rattle.lists.proofs.Base.{arith}
use Rattle.permanova_location.proofs.GroupSums.{group-is}
use Rattle.permanova_location.proofs.add_two.Goals as goal

pub over_weight-requires : goal.over_weight-requires
over_weight-requires c = λ x h. omega (arith, c.requires.2 x h)

pub over_weight-requires-2 : goal.over_weight-requires-2
over_weight-requires-2 c = λ x h. omega (arith, c.requires.3 x h)

pub returns : goal.returns
returns c =
    let args = c.args in
    let t = args.t.now in
    let w = args.w.now in
    let sums = c.two_pair_sums-sums.ensures in
    rw (group-is t w args.m args.p.now sums.0 c.over_weight.ensures, group-is t w args.m args.q.now sums.1 c.over_weight-2.ensures)
