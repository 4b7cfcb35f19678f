-- `permanova_dispersion::distance_of` meets its contract. The root of the larger of the value and 0.
use Rattle.permanova_dispersion.specs.Dispersion.{distance_of}
use Rattle.permanova_dispersion.proofs.distance_of.Goals as goal

pub returns : goal.returns
unfolding distance_of
returns c = rw (c.sqrt.ensures, c.max.ensures)
