-- `lot_design::strata::fraction` meets its contract. Both numbers are exact floats.
use Rattle.lists.proofs.Base.{◌^◌, arith, le→leb}
use lib.Ieee.{in_float}
use Rattle.lot_design.proofs.strata.fraction.Goals as goal

pub int_to_float-result : goal.int_to_float-result
unfolding in_float
int_to_float-result c = le→leb c.args.count (2 ^ 53) (omega arith)

pub int_to_float-result-2 : goal.int_to_float-result-2
unfolding in_float
int_to_float-result-2 c = le→leb c.args.m (2 ^ 53) (omega arith)
