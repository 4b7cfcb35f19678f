-- `eigen_matrix::entrywise::add_multiple` meets its contract. The closure's rule, at each entry.
use Rattle.lists.proofs.Base.{get_or, nan, rules}
use Rattle.float.specs.Floats.{◌⊕◌, ◌⊗◌}
use Rattle.eigen_matrix.proofs.entrywise.add_multiple.Goals as goal

pub returns : goal.returns
returns c = c.rewrite.ensures (λ i r. r ⊕ c.args.s ⊗ get_or c.args.other.now i nan) (λ i r s h k. search rules)
