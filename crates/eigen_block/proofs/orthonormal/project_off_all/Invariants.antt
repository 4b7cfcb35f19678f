-- `eigen_block::orthonormal::project_off_all` meets its contract. The invariant: the parts along the first i columns are off.
use Rattle.lists.proofs.Base.{◌≡◌}
use Rattle.eigen_block.proofs.Columns.{off_all}
use Rattle.eigen_block.proofs.orthonormal.project_off_all.Given as goal

abbrev pub invariant-loop-i : goal.invariant-loop-i
invariant-loop-i l = l.x ≡ off_all l.n l.q l.i l.initial.x
