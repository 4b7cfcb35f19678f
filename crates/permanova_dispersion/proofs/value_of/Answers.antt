-- `permanova_dispersion::value_of` meets its contract. Step by step.
use mathlib.Core.Path.{refl}
use Rattle.permanova_dispersion.specs.Dispersion.{value_of}
use Rattle.permanova_dispersion.proofs.value_of.Goals as goal

pub returns : goal.returns
unfolding value_of
returns c = refl
