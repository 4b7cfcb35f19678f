-- `eigen_top::checks::beyond` meets its contract. One test after the other.
use Rattle.lists.proofs.Base.{arith}
use Rattle.std.proofs.lemmas.Bool.Decides.{nat_tests}
use Rattle.eigen_top.specs.TopLines.{beyond}
use Rattle.eigen_top.proofs.checks.beyond.Goals as goal
use Rattle.eigen_top.proofs.checks.beyond.Goals.{then-n-gt-MOST_SAMPLES, else-n-gt-MOST_SAMPLES}

pub returns-then-components-eq0 : goal.returns-then-components-eq0
unfolding beyond
returns-then-components-eq0 c = elim c.if-n-gt-MOST_SAMPLES.branch [
  | then-n-gt-MOST_SAMPLES w ↦ grind (arith, nat_tests)
  | else-n-gt-MOST_SAMPLES w ↦ grind (arith, nat_tests)
]

pub returns-else-components-eq0 : goal.returns-else-components-eq0
unfolding beyond
returns-else-components-eq0 c = grind (arith, nat_tests)
