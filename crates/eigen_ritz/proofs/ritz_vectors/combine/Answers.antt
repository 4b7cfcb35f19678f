-- `eigen_ritz::ritz_vectors::combine` meets its contract. Each row by the closure's rule.
use Rattle.lists.proofs.Base.{rules}
use Rattle.lists.specs.{Ranges.table, Ranges.grid}
use Rattle.lists.proofs.Ranges.{length-table}
use Rattle.eigen_ritz.specs.RitzVectors.{ritz_vector_at, ritz_vectors}
use Rattle.eigen_ritz.proofs.ritz_vectors.combine.Goals as goal

pub returns : goal.returns
unfolding ritz_vectors grid
returns c =
    let a = c.args in
    c.fill_rows.ensures (λ j. table a.n (ritz_vector_at a.n a.b a.v.now a.q.now j)) (λ j. length-table (ritz_vector_at a.n a.b a.v.now a.q.now j) a.n)
    (λ j row filled h long gives. search rules)
