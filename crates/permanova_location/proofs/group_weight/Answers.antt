-- `permanova_location::group_weight` meets its contract. A sum from -0.0.
use Rattle.permanova_location.specs.Location.{group_weight}
use Rattle.permanova_location.proofs.group_weight.Goals as goal

pub sum_at-requires : goal.sum_at-requires
sum_at-requires c = c.requires

pub returns : goal.returns
unfolding group_weight
returns c = c.sum_at.ensures
