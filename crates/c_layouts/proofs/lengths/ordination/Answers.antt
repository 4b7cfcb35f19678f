-- `c_layouts::lengths::ordination` meets its contract. Up to 256 nothing wraps.
use Rattle.lists.proofs.Base.{arith, mul-le-mul}
use Rattle.c_layouts.proofs.lengths.ordination.Goals as goal

pub overflow_mul-result : goal.overflow_mul-result
overflow_mul-result c = omega (arith, mul-le-mul c.requires.0 c.requires.1)

pub overflow_add-result-2 : goal.overflow_add-result-2
overflow_add-result-2 c = omega (arith, mul-le-mul c.requires.0 c.requires.1)
