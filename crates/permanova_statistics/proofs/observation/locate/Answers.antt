-- `permanova_statistics::observation::locate` meets its contract. Total, within, and what follows from both.
use Rattle.permanova_statistics.specs.inner.Observed.{located}
use Rattle.permanova_statistics.proofs.observation.locate.Goals as goal

pub within-inside-requires : goal.within-inside-requires
within-inside-requires c = (c.requires.pair_terms, c.requires.weights, c.requires.parts)

pub returns : goal.returns
unfolding located
returns c gs grouped = rw (c.pseudo_f-f.ensures, c.r_squared-r2.ensures, c.within-inside.ensures.of_labels gs grouped, c.total-total.ensures)
