-- `permanova_sums::pairs_with` meets its contract. The later members are their own part of the list.
use Rattle.lists.proofs.Base.{refl, ◌+◌}
use Rattle.permanova_sums.proofs.LaterMembers.{below_rest, sum-later}
use Rattle.permanova_sums.proofs.pairs_with.Goals as goal

pub sum_entries-requires : goal.sum_entries-requires
sum_entries-requires c = let a = c.args in (c.requires.0, below_rest a.m a.mem.now (a.x + 1) c.requires.1, c.requires.1 a.x c.requires.2)

pub returns : goal.returns
returns c = let a = c.args in sum-later a.t.now a.m a.mem.now a.x a.s refl c.sum_entries.ensures
