-- `eigen_rotations::rotate` meets its contract. By whether the entry of the pair is below 1e-300.
use Rattle.lists.specs.Rows.{entry}
use Rattle.eigen_rotations.proofs.Rotation.{rotate-skips, rotate-turns}
use Rattle.eigen_rotations.proofs.rotate.Goals as goal

pub returns-then-abs : goal.returns-then-abs
returns-then-abs c =
    let h = c.requires in
    rotate-skips _ _ _ _ _ _ _ h.0 h.1 h.2 h.3 h.4 h.5 c.abs.ensures c.if-abs.true

pub returns : goal.returns
unfolding entry
returns c =
    let h = c.requires in
    rotate-turns _ _ _ _ _ _ _ h.0 h.1 h.2 h.3 h.4 h.5 c.abs.ensures c.if-abs.false c.tangent-t.ensures
    c.cosine-c.ensures c.turn.ensures
