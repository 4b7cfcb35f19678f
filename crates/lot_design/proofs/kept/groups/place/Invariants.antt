-- `lot_design::kept::groups::place` meets its contract. The groups of the samples passed are put.
use Rattle.lists.proofs.Base.{◌≡◌, length}
use Rattle.lists.specs.Loops.{in_turn}
use Rattle.lot_design.proofs.LoopTurns.{turned}
use Rattle.lot_design.proofs.kept.groups.place.Given as goal

abbrev pub invariant-loop-i : goal.invariant-loop-i
invariant-loop-i l = (length l.each ≡ length l.initial.each) × (l.each ≡ in_turn (turned l.ks l.gs) (length l.yielded) l.initial.each)
