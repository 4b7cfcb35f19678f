-- `float::axis_sign` meets its contract: the test tells what is below zero, and the arithmetic makes -1 or 1 of it.
use Rattle.float.proofs.Signs.{below-zero, one-minus-twice}
use Rattle.float.proofs.axis_sign.Goals as goal

pub returns : goal.returns
returns c = simp (one-minus-twice, below-zero)
