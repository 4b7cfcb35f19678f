-- `dapc_scatter::ridge::raise` meets its contract. After a turns the first a are raised.
use Rattle.lists.proofs.Base.{cond, eqb}
use Rattle.float.specs.Floats.{◌⊕◌}
use Rattle.lists.specs.Rows.{entry}
use Rattle.dapc_scatter.proofs.InPlace.{Reworked}
use Rattle.dapc_scatter.proofs.ridge.raise.Given as goal

abbrev pub invariant-loop-a : goal.invariant-loop-a
invariant-loop-a l = Reworked l.p l.p (λ k i. cond (eqb k i) (entry l.p l.initial.sw k i ⊕ l.r) (entry l.p l.initial.sw k i)) l.initial.sw l.sw l.a
