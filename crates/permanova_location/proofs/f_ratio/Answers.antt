-- `permanova_location::f_ratio` meets its contract. Both degrees of freedom are at most 2 ^ 53, so each is an f64.
use Rattle.lists.proofs.Base.{refl, ◌-◌, ◌^◌, arith, le→leb}
use lib.Ieee.{in_float}
use Rattle.permanova_location.specs.Location.{f_ratio}
use Rattle.permanova_location.proofs.f_ratio.Goals as goal

pub int_to_float-result : goal.int_to_float-result
unfolding in_float
int_to_float-result c = le→leb (c.args.g - 1) (2 ^ 53) (omega arith)

pub int_to_float-result-2 : goal.int_to_float-result-2
unfolding in_float
int_to_float-result-2 c = le→leb (c.args.m - c.args.g) (2 ^ 53) (omega arith)

pub returns : goal.returns
unfolding f_ratio
returns c = refl
