-- `eigen_block::power::power_step` meets its contract. The product, and its length.
use Rattle.lists.proofs.Base.{ap, ◌∙◌}
use Rattle.eigen_vectors.specs.Vectors.{norm}
use Rattle.eigen_block.proofs.power.power_step.Goals as goal

pub returns : goal.returns
returns c = let product = c.matvec.ensures in (product, c.norm.ensures ∙ ap norm product)
