-- `dapc_scatter::means::add_members` meets its contract. After i turns the first i samples are added.
use Rattle.dapc_scatter.proofs.MeanSums.{GroupsAdded}
use Rattle.dapc_scatter.proofs.means.add_members.Given as goal

abbrev pub invariant-loop-i : goal.invariant-loop-i
invariant-loop-i l = GroupsAdded l.leading.lead l.leading.columns l.leading.x.now l.leading.groups.now l.initial.mu l.g l.mu l.i
