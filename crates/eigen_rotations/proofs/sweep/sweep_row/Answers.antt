-- `eigen_rotations::sweep::sweep_row` meets its contract. The rows p go out and come back.
use Rattle.lists.proofs.Base.{ap, ap₂, ◌∙◌, List, Float}
use Rattle.lists.specs.Rows.{put_row}
use Rattle.eigen_rotations.specs.{Rotation.turned, Pairs.sweep_row}
use Rattle.eigen_rotations.proofs.RowsApart.{put-own}
use Rattle.eigen_rotations.proofs.sweep.sweep_row.Goals as goal

pub returns : goal.returns
returns c =
    let a = c.args in
    let done = ap₂ turned c.put_row.ensures c.put_row-2.ensures ∙ c.sweep_held.ensures in
    let own = ap₂ turned (ap (λ (r : List Float). put_row a.n a.p r a.m.now) c.copy_row.ensures
    ∙ put-own a.n a.p a.m.now) (ap (λ (r : List Float). put_row a.n a.p r a.v.now) c.copy_row-2.ensures
    ∙ put-own a.n a.p a.v.now) in done ∙ ap (sweep_row a.n a.p) own
