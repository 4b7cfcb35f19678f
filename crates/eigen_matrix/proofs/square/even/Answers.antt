-- `eigen_matrix::square::even` meets its contract. Two stores.
use Rattle.lists.proofs.Base.{refl, length-set}
use Rattle.lists.specs.Rows.{entry}
use Rattle.eigen_matrix.specs.inner.Symmetric.{evened}
use Rattle.eigen_matrix.proofs.square.even.Goals as goal

pub shape_of-t : goal.shape_of-t
shape_of-t c = simp (length-set, length-set)

pub returns : goal.returns
unfolding evened entry
returns c = refl
