-- `eigen_matrix::square::symmetrise` meets its contract. After i turns the first i rows are evened; all of them make the matrix symmetric.
use Rattle.lists.proofs.Base.{◌≡◌, ◌∙◌, arith}
use Rattle.lists.proofs.Loops.{in_turn-none, in_turn-next}
use Rattle.eigen_matrix.proofs.TransposeMeans.{evened-all}
use Rattle.eigen_matrix.proofs.square.symmetrise.Goals as goal

pub loop-i-init : goal.loop-i-init
loop-i-init c = in_turn-none _ _

pub loop-i-preserved : goal.loop-i-preserved
loop-i-preserved c = in_turn-next _ _ _ c.loop-i.invariant c.even_row.ensures

pub returns : goal.returns
returns c =
    let args = c.args in
    let e : c.loop-i.i ≡ args.p = omega arith in (rw e at c.loop-i.invariant) ∙ evened-all args.p args.m.now c.requires
