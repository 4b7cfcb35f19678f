-- `eigen_matrix::entrywise::subtract` meets its contract. The closure's rule, at each entry.
use Rattle.lists.proofs.Base.{get_or, nan, rules}
use Rattle.float.specs.Floats.{◌⊖◌}
use Rattle.eigen_matrix.proofs.entrywise.subtract.Goals as goal

pub returns : goal.returns
returns c = c.rewrite.ensures (λ i r. get_or c.args.a.now i nan ⊖ get_or c.args.b.now i nan) (λ i r s h k. search rules)
