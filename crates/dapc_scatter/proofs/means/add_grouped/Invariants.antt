-- `dapc_scatter::means::add_grouped` meets its contract. After i turns the first i samples are added.
use Rattle.dapc_scatter.proofs.{MeanSums.AllAdded}
use Rattle.dapc_scatter.proofs.means.add_grouped.Given as goal

abbrev pub invariant-loop-i : goal.invariant-loop-i
invariant-loop-i l = AllAdded l.leading.lead l.leading.columns l.leading.x.now l.leading.groups.now l.initial.sum l.sum l.i
