-- `permanova_sums::squares::fill_row` meets its contract. By any rule that f keeps to, the first b entries are written.
use Rattle.lists.proofs.Writes.{writing-none, writing-next, writing-all}
use Rattle.permanova_sums.proofs.squares.fill_row.Goals as goal

pub loop-b-init : goal.loop-b-init
loop-b-init g c = λ h keeps. writing-none h _

pub loop-b-preserved : goal.loop-b-preserved
loop-b-preserved g c = λ h keeps. writing-next h _ (c.loop-b.invariant h keeps) c.loop-b-test.true (keeps _ _ c.loop-b-test.true c.f.ensures)

pub returns : goal.returns
returns g c = λ h keeps. writing-all h _ (c.loop-b.invariant h keeps) c.loop-b-test.false
