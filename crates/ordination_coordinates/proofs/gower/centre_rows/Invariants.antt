-- `ordination_coordinates::gower::centre_rows` meets its contract. After i turns the first i rows are centred.
use Rattle.lists.proofs.Base.{◌-◌}
use Rattle.lists.specs.Ranges.{table}
use Rattle.lists.proofs.Writes.{Filling}
use Rattle.ordination_coordinates.specs.Centred.{centred_at}
use Rattle.ordination_coordinates.proofs.gower.centre_rows.Given as goal

abbrev pub invariant-loop-i : goal.invariant-loop-i
invariant-loop-i l = Filling l.n l.n (λ j. table l.n (centred_at l.n l.initial.b l.m l.all j)) l.initial.b l.b l.i

abbrev pub decreases-loop-i : goal.decreases-loop-i
decreases-loop-i l = l.n - l.i
