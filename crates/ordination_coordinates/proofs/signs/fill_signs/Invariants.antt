-- `ordination_coordinates::signs::fill_signs` meets its contract. After c turns the first c signs stand there.
use Rattle.lists.specs.Rows.{row}
use Rattle.lists.proofs.{Writes.Writing}
use Rattle.ordination_coordinates.specs.Signs.{orient}
use Rattle.ordination_coordinates.proofs.signs.fill_signs.Given as goal

abbrev pub invariant-loop-c : goal.invariant-loop-c
invariant-loop-c l = Writing (λ k. orient (row l.n k l.vectors)) l.initial.out l.out l.c
