-- `eigen_matrix::put_row` meets its contract. The part that is written is row i.
use Rattle.lists.proofs.Base.{ap, ◌∙◌, List, Float}
use Rattle.lists.specs.Rows.{put_row}
use Rattle.lists.proofs.Rows.{put-row}
use Rattle.eigen_matrix.proofs.put_row.Goals as goal

pub returns : goal.returns
returns c =
    let a = c.args in
    put-row a.n a.i a.m.now _ ∙ ap (λ (r : List Float). put_row a.n a.i r a.m.now) c.copy.ensures
