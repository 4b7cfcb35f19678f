-- `permanova_dispersion::anova::mean_of` meets its contract. The sum from -0.0, divided by the count.
use Rattle.permanova_dispersion.specs.Anova.{mean_of}
use Rattle.permanova_dispersion.proofs.anova.mean_of.Goals as goal

pub sum_at-requires : goal.sum_at-requires
sum_at-requires c = c.requires.0

pub returns : goal.returns
unfolding mean_of
returns c = rw (c.quotient.ensures, c.sum_at.ensures)
