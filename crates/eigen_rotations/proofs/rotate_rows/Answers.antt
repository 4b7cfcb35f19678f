-- `eigen_rotations::rotate_rows` meets its contract. Row q is lent as its own part.
use Rattle.lists.proofs.Base.{ap, ◌∙◌, Float}
use mathlib.Core.List.{List, zip_with}
use Rattle.lists.specs.Rows.{put_row}
use Rattle.lists.proofs.Rows.{part-row, put-row}
use Rattle.eigen_rotations.specs.Rotation.{turn_first, turn_second}
use Rattle.eigen_rotations.proofs.rotate_rows.Goals as goal

pub returns : goal.returns
returns c =
    let a = c.args in
    let lent = part-row a.n a.r.q a.m.now in
    let both = c.rotate_pair.ensures in (
      both.0 ∙ ap (zip_with (turn_first a.r.c a.r.s) a.x.now) lent,
      put-row _ _ _ _ ∙ ap (λ (r : List Float). put_row a.n a.r.q r a.m.now) (both.1 ∙ ap (zip_with (turn_second a.r.c a.r.s) a.x.now) lent),
    )
