-- `dapc_scatter::add_within` meets its contract. After i turns the first i samples are added.
use Rattle.lists.proofs.Base.{◌≡◌, length}
use Rattle.dapc_scatter.proofs.Scatter.{WithinAdded}
use Rattle.dapc_scatter.proofs.add_within.Given as goal

abbrev pub invariant-loop-i : goal.invariant-loop-i
invariant-loop-i l = let s = l.leading in WithinAdded s.lead s.columns s.x.now s.groups.now l.mu l.initial.sw l.sw l.i × (length l.d ≡ s.lead)
