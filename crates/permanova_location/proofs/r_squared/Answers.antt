-- `permanova_location::r_squared` meets its contract. By whether the total is above 0.
use Rattle.permanova_location.specs.Location.{r_squared}
use Rattle.permanova_location.proofs.r_squared.Goals as goal

pub returns-then-total : goal.returns-then-total
unfolding r_squared
returns-then-total c = rw c.if-total.true

pub returns-else-total : goal.returns-else-total
unfolding r_squared
returns-else-total c = rw c.if-total.false
