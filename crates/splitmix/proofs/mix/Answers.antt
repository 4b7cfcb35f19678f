-- `splitmix::mix` meets its contract: std's product is the product modulo 2 ^ 64.
use Rattle.std.proofs.Common.{refl}
use Rattle.splitmix.specs.SplitMix.{mix}
use Rattle.splitmix.proofs.mix.Goals as goal

pub returns : goal.returns
unfolding mix
returns c = refl
