-- `eigen_block::orthonormal::orthonormalize_column` meets its contract. The part of z without its projections, and that at length 1 put into q.
use Rattle.lists.proofs.Base.{ap, ◌∙◌, List, Float}
use Rattle.lists.specs.Rows.{put_row}
use Rattle.lists.proofs.Rows.{part-row, put-row, row-lent}
use Rattle.eigen_vectors.specs.Vectors.{unit}
use Rattle.eigen_block.proofs.Columns.{off_all}
use Rattle.eigen_block.proofs.orthonormal.orthonormalize_column.Goals as goal

pub returns : goal.returns
returns c =
    let a = c.args in
    let z = c.project_off_all.new.x in (
      row-lent a.n a.j (off_all a.n (a.q.now) a.j) (a.z.now) c.project_off_all.ensures,
      put-row a.n a.j (a.q.now) _ ∙ ap (λ (r : List Float). put_row a.n a.j r (a.q.now)) (c.put_unit.ensures ∙ ap unit (part-row a.n a.j _)),
    )
