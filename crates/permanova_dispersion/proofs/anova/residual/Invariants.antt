-- `permanova_dispersion::anova::residual` meets its contract. The residuals still to come, added to s, are always the whole sum.
use Rattle.lists.proofs.Base.{◌≡◌, map, length}
use Rattle.lists.specs.{Ranges.range, Sums.sum_from}
use Rattle.permanova_dispersion.specs.Anova.{residual_at, residual}
use Rattle.permanova_dispersion.proofs.anova.residual.Given as goal

abbrev pub invariant-loop-x : goal.invariant-loop-x
invariant-loop-x l = sum_from l.s (map (residual_at l.z l.means l.lab) (range (length l.yielded) (length l.z))) ≡ residual l.z l.means l.lab (length l.z)
