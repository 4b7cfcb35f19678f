-- `eigen_vectors::less_times` meets its contract. The closure's rule, at each entry.
use Rattle.lists.proofs.Base.{◌∙◌, get_or, nan, rules}
use Rattle.float.specs.Floats.{◌⊖◌, ◌⊗◌}
use Rattle.lists.proofs.Zips.{zip-table}
use Rattle.eigen_vectors.specs.Vectors.{less_times}
use Rattle.eigen_vectors.proofs.less_times.Goals as goal

pub returns : goal.returns
unfolding less_times
returns c =
    let a = c.args in
    c.rewrite.ensures (λ i u. u ⊖ a.d ⊗ get_or a.y.now i nan) (λ i u r h k. search rules)
    ∙ zip-table (λ u v. u ⊖ a.d ⊗ v) a.x.now a.y.now nan nan c.requires
