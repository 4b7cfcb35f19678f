-- `permanova_dispersion::anova::quotient` meets its contract. The count is at most 2 ^ 53, so it is an f64.
use Rattle.lists.proofs.Base.{◌^◌, arith, le→leb}
use lib.Ieee.{in_float}
use Rattle.permanova_dispersion.proofs.anova.quotient.Goals as goal

pub int_to_float-result : goal.int_to_float-result
unfolding in_float
int_to_float-result c = le→leb c.args.n (2 ^ 53) (omega arith)
