-- `ordination_coordinates::gower::fill_means` meets its contract. After i turns the first i means stand there.
use Rattle.lists.proofs.Base.{◌-◌}
use Rattle.lists.specs.Rows.{row}
use Rattle.lists.proofs.{Writes.Writing}
use Rattle.ordination_coordinates.specs.Centred.{mean}
use Rattle.ordination_coordinates.proofs.gower.fill_means.Given as goal

abbrev pub invariant-loop-i : goal.invariant-loop-i
invariant-loop-i l = Writing (λ k. mean l.n (row l.n k l.s)) l.initial.out l.out l.i

abbrev pub decreases-loop-i : goal.decreases-loop-i
decreases-loop-i l = l.n - l.i
