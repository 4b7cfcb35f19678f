-- `permanova_location::pseudo_f` meets its contract. The ratio of what is not within, and what is.
use Rattle.permanova_location.specs.Location.{pseudo_f}
use Rattle.permanova_location.proofs.pseudo_f.Goals as goal

pub f_ratio-requires : goal.f_ratio-requires
f_ratio-requires c = c.requires

pub returns : goal.returns
unfolding pseudo_f
returns c = c.f_ratio.ensures
