-- `permanova_sums::pair_sum` meets its contract. All members are the first ones.
use Rattle.permanova_sums.proofs.LaterMembers.{first-all}
use Rattle.permanova_sums.proofs.pair_sum.Goals as goal

pub returns : goal.returns
returns c = let args = c.args in first-all args.t.now args.m args.mem.now c.first_pairs.ensures
