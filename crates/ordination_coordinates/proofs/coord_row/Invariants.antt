-- `ordination_coordinates::coord_row` meets its contract. After c turns the first c components stand there.
use Rattle.lists.proofs.{Writes.Writing}
use Rattle.ordination_coordinates.specs.Finish.{coord_at}
use Rattle.ordination_coordinates.proofs.coord_row.Given as goal

abbrev pub invariant-loop-c : goal.invariant-loop-c
invariant-loop-c l = Writing (coord_at l.n l.sg l.sc l.vectors l.i) l.initial.row l.row l.c
