-- `eigen_block::orthonormal::draw` meets its contract. The invariant: a word is drawn for each entry passed.
use Rattle.lists.proofs.Base.{arith}
use Rattle.eigen_block.proofs.DrawnWords.{drawing-none, drawing-next, drawing-all}
use Rattle.eigen_block.proofs.orthonormal.draw.Goals as goal

pub loop-x-init : goal.loop-x-init
loop-x-init c = drawing-none 0xc0ffee (c.args.z.now)

pub loop-x-preserved : goal.loop-x-preserved
loop-x-preserved c = drawing-next 0xc0ffee (c.args.z.now) c.loop-x.invariant (omega arith) c.advance-s.ensures c.uniform.ensures

pub returns : goal.returns
returns c = drawing-all 0xc0ffee (c.args.z.now) c.loop-x.invariant (omega arith)
