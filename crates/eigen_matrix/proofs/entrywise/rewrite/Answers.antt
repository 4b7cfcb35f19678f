-- `eigen_matrix::entrywise::rewrite` meets its contract. By any rule that f keeps to, the first c entries are written, and the others stand as they were.
use Rattle.lists.proofs.Base.{ap, ◌∙◌, nan}
use Rattle.lists.proofs.Writes.{writing-none, writing-next, writing-here, writing-all}
use Rattle.eigen_matrix.proofs.entrywise.rewrite.Goals as goal

pub loop-c-init : goal.loop-c-init
loop-c-init g c = λ h keeps. writing-none _ _

pub loop-c-preserved : goal.loop-c-preserved
loop-c-preserved g c =
    λ h keeps. writing-next _ _ (c.loop-c.invariant h keeps) c.loop-c-test.true
    (keeps _ _ _ c.loop-c-test.true c.f.ensures ∙ ap (h c.loop-c.c) (writing-here _ _ nan (c.loop-c.invariant h keeps)))

pub returns : goal.returns
returns g c = λ h keeps. writing-all _ _ (c.loop-c.invariant h keeps) c.loop-c-test.false
