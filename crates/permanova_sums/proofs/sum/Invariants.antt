-- `permanova_sums::sum` meets its contract. What is left, added to s, is always the whole sum.
use Rattle.lists.proofs.Base.{◌≡◌, drop}
use Rattle.float.specs.Floats.{zero⁻}
use Rattle.lists.specs.Sums.{sum_from}
use Rattle.permanova_sums.proofs.sum.Given as goal

abbrev pub invariant-loop-x : goal.invariant-loop-x
invariant-loop-x l = sum_from l.s (drop l.x-index l.w) ≡ sum_from zero⁻ l.w
