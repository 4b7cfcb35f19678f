-- `c_layouts::lengths::pairs` meets its contract. Up to 256 nothing wraps.
use Rattle.lists.proofs.Base.{arith, mul-le-mul}
use Rattle.c_layouts.proofs.lengths.pairs.Goals as goal

pub overflow_mul-result : goal.overflow_mul-result
overflow_mul-result c = omega (arith, mul-le-mul c.requires.1 c.requires.0)

pub overflow_add-result : goal.overflow_add-result
overflow_add-result c = omega (arith, mul-le-mul c.requires.1 c.requires.0)
