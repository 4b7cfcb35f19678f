-- `dapc_scatter::means::count_groups` meets its contract. After i turns the first i samples are counted.
use Rattle.lists.proofs.Base.{length}
use Rattle.dapc_scatter.proofs.Counting.{Counting}
use Rattle.dapc_scatter.proofs.means.count_groups.Given as goal

abbrev pub invariant-loop-i : goal.invariant-loop-i
invariant-loop-i l = Counting l.leading.groups.now (length l.initial.counts) l.counts l.i
