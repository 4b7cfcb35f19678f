-- `eigen_rotations::tangent` meets its contract. By whether theta is a zero.
use Rattle.eigen_rotations.specs.Rotation.{tangent}
use Rattle.eigen_rotations.proofs.tangent.Goals as goal

pub returns-then-theta : goal.returns-then-theta
unfolding tangent
returns-then-theta c = simp c.if-theta.true

pub returns : goal.returns
unfolding tangent
returns c = simp (c.if-theta.false, c.signum.ensures, c.abs.ensures, c.sqrt.ensures)
