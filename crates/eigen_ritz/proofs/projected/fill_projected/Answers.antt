-- `eigen_ritz::projected::fill_projected` meets its contract. Each row by the closure's rule.
use Rattle.lists.proofs.Base.{rules}
use Rattle.lists.specs.{Ranges.table, Ranges.grid}
use Rattle.lists.proofs.Ranges.{length-table}
use Rattle.eigen_ritz.specs.Projected.{projected_at, projected_matrix}
use Rattle.eigen_ritz.proofs.projected.fill_projected.Goals as goal

pub returns : goal.returns
unfolding projected_matrix grid
returns c =
    let a = c.args in
    c.fill_rows.ensures (λ i. table a.b (projected_at a.n a.q.now a.aq.now i)) (λ i. length-table (projected_at a.n a.q.now a.aq.now i) a.b)
    (λ i row filled h long gives. search rules)
