-- `eigen_matrix::entrywise::divide` meets its contract. The closure's rule, at each entry.
use Rattle.lists.proofs.Base.{rules}
use Rattle.float.specs.Floats.{◌⊘◌}
use Rattle.eigen_matrix.proofs.entrywise.divide.Goals as goal

pub returns : goal.returns
returns c = c.rewrite.ensures (λ i r. r ⊘ c.args.by) (λ i r s h k. search rules)
