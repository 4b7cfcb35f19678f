-- `eigen_vectors::norm` meets its contract. The root of the inner product with itself.
use Rattle.lists.proofs.Base.{ap, ◌∙◌}
use Rattle.square_root.specs.Root.{root}
use Rattle.eigen_vectors.specs.Vectors.{norm}
use Rattle.eigen_vectors.proofs.norm.Goals as goal

pub returns : goal.returns
unfolding norm
returns c = c.sqrt.ensures ∙ ap root c.dot.ensures
