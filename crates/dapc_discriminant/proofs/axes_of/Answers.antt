-- `dapc_discriminant::axes_of` meets its contract. The smaller of two.
use Rattle.lists.proofs.Base.{arith}
use Rattle.dapc_discriminant.specs.Dapc.{axes_of}
use Rattle.dapc_discriminant.proofs.axes_of.Goals as goal

pub returns : goal.returns
unfolding axes_of
returns c = omega arith
