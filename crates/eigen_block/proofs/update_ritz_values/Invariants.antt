-- `eigen_block::update_ritz_values` meets its contract. The invariant: j Ritz values are found and held against those before.
use Rattle.lists.specs.Rows.{row}
use Rattle.eigen_vectors.specs.Vectors.{dot}
use Rattle.eigen_block.proofs.Converging.{Settling}
use Rattle.eigen_block.proofs.update_ritz_values.Given as goal

abbrev pub invariant-loop-j : goal.invariant-loop-j
invariant-loop-j l = Settling (λ j. dot (row l.n j l.q) (row l.n j l.aq)) l.initial.before l.before l.settled l.j
