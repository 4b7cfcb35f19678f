-- `permanova_dispersion::fill_z` meets its contract. The distances of the values, and whether one was below 0.
use Rattle.lists.proofs.Base.{ap, ◌∙◌, map}
use Rattle.lists.specs.Filters.{any}
use Rattle.permanova_dispersion.specs.Dispersion.{distance_of, negative, z_of, some_negative}
use Rattle.permanova_dispersion.proofs.fill_z.Goals as goal

pub returns : goal.returns
unfolding z_of some_negative
returns c =
    let values = c.values.ensures in
    (c.some_negative-some.ensures ∙ ap (any negative) values, c.distances.ensures ∙ ap (map distance_of) values)
