-- `eigen_matrix::entrywise::scale` meets its contract. The closure's rule, at each entry.
use Rattle.lists.proofs.Base.{get_or, nan, rules}
use Rattle.float.specs.Floats.{◌⊗◌}
use Rattle.eigen_matrix.proofs.entrywise.scale.Goals as goal

pub returns : goal.returns
returns c = c.rewrite.ensures (λ i r. c.args.w ⊗ get_or c.args.d.now i nan) (λ i r s h k. search rules)
