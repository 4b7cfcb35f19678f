-- `eigen_rotations::cosine` meets its contract. The root is that of `square_root::sqrt`.
use Rattle.eigen_rotations.specs.Rotation.{cosine}
use Rattle.eigen_rotations.proofs.cosine.Goals as goal

pub returns : goal.returns
unfolding cosine
returns c = simp c.sqrt.ensures
