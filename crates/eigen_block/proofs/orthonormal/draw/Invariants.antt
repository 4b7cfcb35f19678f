-- `eigen_block::orthonormal::draw` meets its contract. The invariant: a word is drawn for each entry passed.
use Rattle.eigen_block.proofs.DrawnWords.{Drawing}
use Rattle.eigen_block.proofs.orthonormal.draw.Given as goal

abbrev pub invariant-loop-x : goal.invariant-loop-x
invariant-loop-x l = Drawing 0xc0ffee l.initial.z l.z l.s l.x-index
