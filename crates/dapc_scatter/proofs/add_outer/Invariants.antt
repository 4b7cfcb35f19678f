-- `dapc_scatter::add_outer` meets its contract. After a turns the first a rows are added to.
use Rattle.lists.proofs.Base.{get_or, nan}
use Rattle.float.specs.Floats.{◌⊕◌, ◌⊗◌}
use Rattle.lists.specs.Rows.{entry}
use Rattle.dapc_scatter.proofs.InPlace.{Reworked}
use Rattle.dapc_scatter.proofs.add_outer.Given as goal

abbrev pub invariant-loop-a : goal.invariant-loop-a
invariant-loop-a l = Reworked l.p l.p (λ k i. entry l.p l.initial.m k i ⊕ get_or l.s k nan ⊗ get_or l.d i nan) l.initial.m l.m l.a
