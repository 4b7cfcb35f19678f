-- `eigen_rotations::sweep::sweep` meets its contract. At p the rows before p are swept.
use Rattle.lists.proofs.Base.{◌≡◌}
use Rattle.lists.specs.Loops.{in_turn}
use Rattle.eigen_rotations.specs.{Rotation.turned, Pairs.sweep_row}
use Rattle.eigen_rotations.proofs.sweep.sweep.Given as goal

abbrev pub invariant-loop-p : goal.invariant-loop-p
invariant-loop-p l = turned l.m l.v ≡ in_turn (sweep_row l.n) l.p (turned l.initial.m l.initial.v)
