-- `dapc_scatter::ridge::add_ridge` meets its contract. The ridge is worked out first.
use Rattle.lists.proofs.Base.{◌^◌, arith, le→leb}
use lib.Ieee.{in_float}
use Rattle.dapc_scatter.proofs.RidgedDiagonals.{ridged-is}
use Rattle.dapc_scatter.proofs.ridge.add_ridge.Goals as goal

pub int_to_float-r : goal.int_to_float-r
unfolding in_float
int_to_float-r c = le→leb c.args.p (2 ^ 53) (omega arith)

pub returns : goal.returns
returns c = ridged-is c.args.p c.args.sw.now c.trace.ensures c.max.ensures c.raise.ensures
