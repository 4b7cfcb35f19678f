-- `square_root::sqrt` meets its contract: std's root is `root`, and below zero there is none.
use Rattle.std.proofs.Common.{◌∙◌}
use Rattle.float.proofs.Tests.{passes, fails}
use Rattle.square_root.proofs.Library.{sqrt-root, root-none}
use Rattle.square_root.proofs.sqrt.Goals as goal

pub returns-then-x : goal.returns-then-x
returns-then-x c = c.sqrt.ensures.value ∙ sqrt-root _ (passes c.well_formed.0.1)

pub returns-else-x : goal.returns-else-x
returns-else-x c = root-none _ (fails c.if-x.false)
