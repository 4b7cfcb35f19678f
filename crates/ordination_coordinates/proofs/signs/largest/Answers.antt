-- `ordination_coordinates::signs::largest` meets its contract. After i turns m is the largest of the first i.
use Rattle.lists.proofs.Base.{◌≡◌, arith, length}
use Rattle.lists.proofs.Loops.{in_turn-none, in_turn-next}
use Rattle.ordination_coordinates.specs.Signs.{largest}
use Rattle.ordination_coordinates.proofs.signs.largest.Goals as goal

pub loop-x-init : goal.loop-x-init
loop-x-init c = in_turn-none _ _

pub loop-x-preserved : goal.loop-x-preserved
loop-x-preserved c = in_turn-next _ _ _ c.loop-x.invariant c.stronger-m.ensures

pub returns : goal.returns
unfolding largest
returns c = let e : c.loop-x.x-index ≡ length c.args.v.now = omega arith in rw e at c.loop-x.invariant
