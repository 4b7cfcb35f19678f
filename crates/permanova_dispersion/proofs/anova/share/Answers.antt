-- `permanova_dispersion::anova::share` meets its contract. The count is at most 2 ^ 53, so it is an f64.
use Rattle.lists.proofs.Base.{refl, ◌^◌, arith, le→leb, length}
use lib.Ieee.{in_float}
use Rattle.permanova_dispersion.specs.Anova.{share, squared}
use Rattle.permanova_dispersion.proofs.anova.share.Goals as goal

pub int_to_float-result : goal.int_to_float-result
unfolding in_float
int_to_float-result c = le→leb (length c.args.mem.now) (2 ^ 53) (omega arith)

pub returns : goal.returns
unfolding share squared
returns c = refl
