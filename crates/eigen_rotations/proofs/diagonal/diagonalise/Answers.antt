-- `eigen_rotations::diagonal::diagonalise` meets its contract. The sweeps begin at a and the identity.
use Rattle.lists.proofs.Base.{ap, ap₂, ◌∙◌}
use Rattle.eigen_rotations.specs.{Rotation.turned, Sweeps.sweeps_from}
use Rattle.eigen_rotations.proofs.diagonal.diagonalise.Goals as goal

pub returns : goal.returns
returns c =
    let start = ap₂ turned c.copy.ensures c.fill_identity.ensures in
    (c.sweep_all-made.ensures ∙ ap (sweeps_from 100 c.args.n 0) start, c.gather_diagonal.ensures)
