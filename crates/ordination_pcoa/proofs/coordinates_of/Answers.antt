-- `ordination_pcoa::coordinates_of` meets its contract. The centred matrix, and its coordinates.
use mathlib.Core.Path.{◌∙◌}
use Rattle.ordination_pcoa.proofs.FoundCoordinates.{centred-found}
use Rattle.ordination_pcoa.proofs.coordinates_of.Goals as goal

pub centre-requires : goal.centre-requires
centre-requires c = (c.requires.out_len.1, c.requires.d_len.0, c.requires.d_len.1)

pub ordinate-requires : goal.ordinate-requires
ordinate-requires c =
    let d = c.requires.d_len in
    let o = c.requires.out_len in
    record { b_len = (c.centre.auto.b ∙ o.1, d.1, d.2, d.3); out_len = (o.0, o.2, o.3, o.4) }

pub returns : goal.returns
returns c = let a = c.args in centred-found a.n a.k a.d.now a.out.now c.centre.ensures c.ordinate.ensures
