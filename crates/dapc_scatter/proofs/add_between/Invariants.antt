-- `dapc_scatter::add_between` meets its contract. After j turns the first j groups are added.
use Rattle.lists.proofs.Base.{◌≡◌, length}
use Rattle.dapc_scatter.proofs.{Scatter.BetweenAdded}
use Rattle.dapc_scatter.proofs.add_between.Given as goal

abbrev pub invariant-loop-j : goal.invariant-loop-j
invariant-loop-j l = BetweenAdded l.p (length l.counts) l.counts l.mu l.mean l.initial.sb l.sb l.j × (length l.d ≡ l.p) × (length l.s ≡ l.p)
