-- `eigen_rotations::turn` meets its contract. The calls are the definition.
use Rattle.lists.proofs.Base.{◌+◌, ◌*◌, ◌≤◌, arith}
use Rattle.lists.proofs.Rows.{row-end}
use Rattle.eigen_rotations.proofs.Rotation.{turn-held}
use Rattle.eigen_rotations.proofs.turn.Goals as goal

pub rotate_rows-requires : goal.rotate_rows-requires
rotate_rows-requires c =
    let ends-here : c.args.r.q * c.args.n + c.args.n ≤ c.args.n * c.args.n = row-end _ _ _ c.requires.5 in
    omega (arith, ends-here)

pub rotate_rows-requires-2 : goal.rotate_rows-requires-2
rotate_rows-requires-2 c =
    let ends-here : c.args.r.q * c.args.n + c.args.n ≤ c.args.n * c.args.n = row-end _ _ _ c.requires.5 in
    omega (
      arith,
      ends-here,
    )

pub returns : goal.returns
returns c =
    let a = c.args in
    let h = c.requires in
    turn-held _ _ _ _ a.v.now a.x.now a.y.now h.0 h.1 h.2 h.3 h.4 h.5 a.r.c a.r.s
    c.rotate_columns.ensures c.rotate_columns.auto.m c.rotate_in_row.ensures
    c.rotate_rows.ensures c.rotate_rows-2.ensures
