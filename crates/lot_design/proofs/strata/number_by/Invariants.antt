-- `lot_design::strata::number_by` meets its contract. After k turns the first k samples have their numbers.
use Rattle.lot.proofs.Numbering.{Numbering}
use Rattle.lot_design.proofs.strata.number_by.Given as goal

abbrev pub invariant-loop-k : goal.invariant-loop-k
invariant-loop-k l = Numbering l.initial.held l.ns l.held l.next l.k
