-- `ordination_coordinates::gower::mean` meets its contract. What is left of the sum stays the same.
use Rattle.lists.proofs.Base.{refl, ap, ◌^◌, arith, le→leb}
use lib.Ieee.{Float, nan, in_float}
use Rattle.float.specs.Floats.{◌⊘◌, num}
use Rattle.lists.proofs.Sums.{floats-turn, floats-end}
use Rattle.ordination_coordinates.specs.Centred.{mean}
use Rattle.ordination_coordinates.proofs.gower.mean.Goals as goal

pub loop-x-init : goal.loop-x-init
loop-x-init c = refl

pub loop-x-preserved : goal.loop-x-preserved
loop-x-preserved c =
    let turn = c.loop-x in
    floats-turn turn.s c.args.l.now turn.x-index nan c.loop-x-test.true refl refl turn.invariant

pub int_to_float-result : goal.int_to_float-result
unfolding in_float
int_to_float-result c = le→leb c.args.n (2 ^ 53) (omega arith)

pub returns : goal.returns
unfolding mean
returns c =
    let turn = c.loop-x in
    let a = c.args in
    ap (λ (x : Float). x ⊘ num a.n) (floats-end turn.s a.l.now turn.x-index c.loop-x-test.false turn.invariant)
