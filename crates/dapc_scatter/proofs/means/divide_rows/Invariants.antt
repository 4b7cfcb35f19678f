-- `dapc_scatter::means::divide_rows` meets its contract. After j turns the first j rows are divided.
use Rattle.lists.proofs.Base.{length, get_or}
use Rattle.float.specs.Floats.{◌⊘◌, num}
use Rattle.lists.specs.Rows.{entry}
use Rattle.dapc_scatter.proofs.InPlace.{Reworked}
use Rattle.dapc_scatter.proofs.means.divide_rows.Given as goal

abbrev pub invariant-loop-j : goal.invariant-loop-j
invariant-loop-j l = Reworked (length l.counts) l.p (λ k i. entry l.p l.initial.mu k i ⊘ num (get_or l.counts k 0)) l.initial.mu l.mu l.j
