-- `eigen_rotations::sweep::sweep_held` meets its contract. At q the rotations with p + 1 up to q - 1 are made.
use Rattle.lists.proofs.Base.{◌≡◌, arith}
use Rattle.lists.proofs.Loops.{from_to-none, from_to-next}
use Rattle.eigen_rotations.specs.{Pairs.sweep_row}
use Rattle.eigen_rotations.proofs.sweep.sweep_held.Goals as goal

pub loop-q-init : goal.loop-q-init
loop-q-init c = from_to-none _ _ _

pub loop-q-preserved : goal.loop-q-preserved
loop-q-preserved c = from_to-next _ _ _ _ (omega arith) c.loop-q.invariant c.rotate.ensures

pub returns : goal.returns
unfolding sweep_row
returns c = let all : c.loop-q.q ≡ c.args.n = omega arith in rw all at c.loop-q.invariant
