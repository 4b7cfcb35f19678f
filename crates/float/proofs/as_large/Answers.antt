-- `float::as_large` meets its contract: it compares with the threshold.
use mathlib.Core.Path.{ap}
use lib.Ieee.{Float, le}
use Rattle.float.proofs.as_large.Goals as goal

pub returns : goal.returns
returns c = ap (λ (z : Float). le z c.args.f2) c.threshold.ensures
