-- `permanova_sampling::hits::location_hit` meets its contract. F over the members of the groups, held against the observed.
use Rattle.permanova_sampling.specs.inner.Drawn.{location_hit}
use Rattle.permanova_sampling.proofs.hits.location_hit.Goals as goal

pub within-inside-requires : goal.within-inside-requires
within-inside-requires c = (c.requires.0, c.requires.1, c.requires.2.1.members.parts)

pub pseudo_f-f-requires : goal.pseudo_f-f-requires
pseudo_f-f-requires c = let l = c.requires.2.1.labelled in (l.some, l.enough, l.few)

pub returns : goal.returns
unfolding location_hit
returns c lab grouped = rw (c.shuffle_hit.ensures, c.pseudo_f-f.ensures, c.within-inside.ensures.of_labels lab grouped)
