-- `permanova_dispersion::anova::group_mean` meets its contract. The sum from 0.0, divided by the count or 1.
use Rattle.lists.proofs.Base.{arith}
use Rattle.permanova_dispersion.specs.Anova.{group_mean}
use Rattle.permanova_dispersion.proofs.anova.group_mean.Goals as goal

pub sum_at-requires : goal.sum_at-requires
sum_at-requires c = c.requires.0

pub quotient-requires : goal.quotient-requires
quotient-requires c = omega (arith, c.max.ensures)

pub returns : goal.returns
unfolding group_mean
returns c = rw (c.quotient.ensures, c.sum_at.ensures, c.max.ensures)
