-- `permanova_dispersion::weighted_square_sum` meets its contract. A sum from -0.0.
use Rattle.permanova_dispersion.specs.Dispersion.{weighted_square_sum}
use Rattle.permanova_dispersion.proofs.weighted_square_sum.Goals as goal

pub returns : goal.returns
unfolding weighted_square_sum
returns c = c.sum_entries.ensures
