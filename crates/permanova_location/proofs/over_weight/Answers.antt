-- `permanova_location::over_weight` meets its contract. By what the weight sum and `max` ensure.

use Rattle.permanova_location.proofs.over_weight.Goals as goal

pub returns : goal.returns
returns c = rw (c.max.ensures, c.group_weight.ensures)
