-- `eigen_ritz::projected::projected_row` meets its contract. After j turns the first j entries are written.
use Rattle.lists.proofs.Base.{arith}
use Rattle.lists.proofs.{Rows.row-end, Writes.writing-none, Writes.writing-next, Writes.writing-table}
use Rattle.eigen_ritz.specs.Projected.{projected_at}
use Rattle.eigen_ritz.proofs.projected.projected_row.Goals as goal

pub loop-j-init : goal.loop-j-init
loop-j-init c = writing-none _ _

pub dot_rows-requires : goal.dot_rows-requires
dot_rows-requires c = let a = c.args in omega (arith, row-end a.n _ _ c.loop-j-test.true, row-end a.n _ _ c.requires.3)

pub loop-j-preserved : goal.loop-j-preserved
unfolding projected_at
loop-j-preserved c = writing-next _ _ c.loop-j.invariant (omega arith) c.dot_rows.ensures

pub returns : goal.returns
returns c = writing-table _ _ c.loop-j.invariant c.requires.0 (omega arith)
