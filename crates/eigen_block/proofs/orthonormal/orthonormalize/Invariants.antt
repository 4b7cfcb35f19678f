-- `eigen_block::orthonormal::orthonormalize` meets its contract. The invariant: the first j columns stand in q.
use Rattle.eigen_block.proofs.Columns.{Standing}
use Rattle.eigen_block.proofs.orthonormal.orthonormalize.Given as goal

abbrev pub invariant-loop-j : goal.invariant-loop-j
invariant-loop-j l = Standing l.n l.b l.initial.z l.q l.z l.j
