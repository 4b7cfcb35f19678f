-- `eigen_vectors::put_divided` meets its contract. The closure's rule, at each entry.
use Rattle.lists.proofs.Base.{sym, ap, ◌∙◌, ℕ, get_or, nan, rules}
use Rattle.float.specs.Floats.{◌⊘◌}
use Rattle.lists.specs.Ranges.{table}
use Rattle.lists.proofs.Ranges.{map-table}
use Rattle.eigen_vectors.specs.Vectors.{divided}
use Rattle.eigen_vectors.proofs.put_divided.Goals as goal

pub returns : goal.returns
unfolding divided
returns c =
    let a = c.args in
    c.rewrite.ensures (λ i u. get_or a.y.now i nan ⊘ a.d) (λ i u r h k. search rules)
    ∙ ap (λ (k : ℕ). table k (λ i. get_or a.y.now i nan ⊘ a.d)) c.requires
    ∙ sym (map-table (λ u. u ⊘ a.d) a.y.now nan)
