-- `permanova_statistics::total` meets its contract. The rows' sum divided by the weights'.
use Rattle.lists.proofs.Base.{ap₂, Float}
use Rattle.float.specs.Floats.{◌⊘◌}
use Rattle.permanova_location.specs.Location.{total}
use Rattle.permanova_statistics.proofs.total.Goals as goal

pub returns : goal.returns
unfolding total
returns c = ap₂ (λ (x y : Float). x ⊘ y) c.rows_sum.ensures c.sum.ensures
