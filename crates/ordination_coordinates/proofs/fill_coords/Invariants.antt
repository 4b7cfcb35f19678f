-- `ordination_coordinates::fill_coords` meets its contract. After i turns the first i samples stand there.
use Rattle.lists.proofs.Base.{◌-◌}
use Rattle.lists.specs.Ranges.{table}
use Rattle.lists.proofs.Writes.{Filling}
use Rattle.ordination_coordinates.specs.Finish.{coord_at}
use Rattle.ordination_coordinates.proofs.fill_coords.Given as goal

abbrev pub invariant-loop-i : goal.invariant-loop-i
invariant-loop-i l = Filling l.n l.k (λ j. table l.k (coord_at l.n l.sg l.sc l.vectors j)) l.initial.out l.out l.i

abbrev pub decreases-loop-i : goal.decreases-loop-i
decreases-loop-i l = l.n - l.i
