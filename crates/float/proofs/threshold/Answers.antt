-- `float::threshold` meets its contract: it has the definition's operations.
use mathlib.Core.Path.{ap}
use lib.Ieee.{Float}
use Rattle.float.specs.{Floats.◌⊖◌, Floats.◌⊗◌, Floats.1e-12, Tolerance.threshold}
use Rattle.float.proofs.threshold.Goals as goal

pub returns : goal.returns
unfolding threshold
returns c = ap (λ (z : Float). c.args.f ⊖ 1e-12 ⊗ z) c.abs.ensures
