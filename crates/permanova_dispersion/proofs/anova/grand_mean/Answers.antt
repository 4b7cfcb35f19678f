-- `permanova_dispersion::anova::grand_mean` meets its contract. The sum from -0.0, divided by the count.
use Rattle.permanova_dispersion.specs.Anova.{grand_mean}
use Rattle.permanova_dispersion.proofs.anova.grand_mean.Goals as goal

pub returns : goal.returns
unfolding grand_mean
returns c = rw (c.quotient.ensures, c.sum.ensures)
