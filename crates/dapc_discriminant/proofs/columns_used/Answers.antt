-- `dapc_discriminant::columns_used` meets its contract. The smaller of two, the second cut off at 0.
use Rattle.lists.proofs.Base.{arith}
use Rattle.dapc_discriminant.specs.Dapc.{columns_used}
use Rattle.dapc_discriminant.proofs.columns_used.Goals as goal

pub returns : goal.returns
unfolding columns_used
returns c = omega arith
