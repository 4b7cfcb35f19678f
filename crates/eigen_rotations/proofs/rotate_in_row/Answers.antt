-- `eigen_rotations::rotate_in_row` meets its contract. The two stores are the definition.
use Rattle.lists.proofs.Base.{refl}
use Rattle.eigen_rotations.specs.Rotation.{turn_entries}
use Rattle.eigen_rotations.proofs.rotate_in_row.Goals as goal

pub returns : goal.returns
unfolding turn_entries
returns c = refl
