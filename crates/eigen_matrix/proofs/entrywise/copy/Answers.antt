-- `eigen_matrix::entrywise::copy` meets its contract. The closure's rule, at each entry.
use Rattle.lists.proofs.Base.{ap, ◌∙◌, ℕ, get_or, nan, rules}
use Rattle.lists.specs.Ranges.{table}
use Rattle.lists.proofs.Ranges.{table_of}
use Rattle.eigen_matrix.proofs.entrywise.copy.Goals as goal

pub returns : goal.returns
returns c =
    let other = c.args.other.now in
    c.rewrite.ensures (λ i r. get_or other i nan) (λ i r s h k. search rules) ∙ ap (λ (n : ℕ). table n (λ i. get_or other i nan)) c.requires ∙ table_of other nan
