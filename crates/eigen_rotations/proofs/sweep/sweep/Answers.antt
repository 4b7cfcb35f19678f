-- `eigen_rotations::sweep::sweep` meets its contract. At p the rows before p are swept.
use Rattle.lists.proofs.Base.{◌≡◌, arith}
use Rattle.lists.proofs.{Loops.in_turn-none, Loops.in_turn-next, Rows.row-end}
use Rattle.eigen_rotations.specs.{Pairs.sweep}
use Rattle.eigen_rotations.proofs.sweep.sweep.Goals as goal

pub loop-p-init : goal.loop-p-init
loop-p-init c = in_turn-none _ _

pub sweep_row-requires : goal.sweep_row-requires
sweep_row-requires c = let ends = row-end c.args.n _ _ c.loop-p-test.true in omega arith

pub loop-p-preserved : goal.loop-p-preserved
loop-p-preserved c = in_turn-next _ _ _ c.loop-p.invariant c.sweep_row.ensures

pub returns : goal.returns
unfolding sweep
returns c = let all : c.loop-p.p ≡ c.args.n = omega arith in rw all at c.loop-p.invariant
