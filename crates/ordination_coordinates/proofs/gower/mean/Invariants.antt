-- `ordination_coordinates::gower::mean` meets its contract. What is left of the sum stays the same.
use Rattle.lists.proofs.Base.{◌≡◌, drop}
use Rattle.float.specs.Floats.{zero⁻}
use Rattle.lists.specs.Sums.{sum_from}
use Rattle.ordination_coordinates.proofs.gower.mean.Given as goal

abbrev pub invariant-loop-x : goal.invariant-loop-x
invariant-loop-x l = sum_from l.s (drop l.x-index l.l) ≡ sum_from zero⁻ l.l
