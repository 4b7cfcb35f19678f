-- `eigen_ritz::ritz_vectors::combine_row` meets its contract. After i turns the first i entries are written.
use Rattle.lists.proofs.Base.{arith}
use Rattle.lists.proofs.Writes.{writing-none, writing-next, writing-table}
use Rattle.eigen_ritz.proofs.ritz_vectors.combine_row.Goals as goal

pub loop-i-init : goal.loop-i-init
loop-i-init c = writing-none _ _

pub combine_at-requires : goal.combine_at-requires
combine_at-requires c = (c.requires.1, c.requires.2, c.requires.3, c.loop-i-test.true)

pub loop-i-preserved : goal.loop-i-preserved
loop-i-preserved c = writing-next _ _ c.loop-i.invariant (omega arith) c.combine_at.ensures

pub returns : goal.returns
returns c = writing-table _ _ c.loop-i.invariant c.requires.0 (omega arith)
