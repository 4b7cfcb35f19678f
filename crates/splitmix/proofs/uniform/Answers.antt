-- `splitmix::uniform` meets its contract. The upper bits of a word are a number below 2 ^ 53, so it is an f64.
use Rattle.std.proofs.Common.{ℕ, ◌/◌, ◌^◌, ap, arith, le→leb}
use lib.Ieee.{in_float}
use Rattle.float.specs.Floats.{◌⊖◌, ◌⊘◌, num, 0·5, 2^53}
use Rattle.splitmix.specs.SplitMix.{uniform}
use Rattle.splitmix.proofs.uniform.Goals as goal

pub int_to_float-result : goal.int_to_float-result
unfolding in_float
int_to_float-result c = le→leb (c.mix-w.result / 2 ^ 11) (2 ^ 53) (omega arith)

pub returns : goal.returns
unfolding uniform
returns c = ap (λ (w : ℕ). num (w / 2 ^ 11) ⊘ 2^53 ⊖ 0·5) c.mix-w.ensures
