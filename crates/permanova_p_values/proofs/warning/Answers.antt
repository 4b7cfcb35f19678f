-- `permanova_p_values::warning` meets its contract. The bits are a sum.
use Rattle.std.proofs.Common.{rules}
use Rattle.lists.specs.Numbers.{sumℕ}
use Rattle.permanova_p_values.proofs.warning.Goals as goal

pub returns : goal.returns
unfolding sumℕ
returns c = search rules
