-- `eigen_rotations::diagonal::fill_unit` meets its contract. Zeros, and a 1 at place i.
use Rattle.eigen_rotations.proofs.IdentityRows.{unit_row}
use Rattle.eigen_rotations.proofs.diagonal.fill_unit.Goals as goal

pub returns : goal.returns
returns c = simp (c.fill.ensures.after (λ _ e. e)) (unit_row _ _ c.requires)
