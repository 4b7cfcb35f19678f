-- `ordination_coordinates::scale_vectors` meets its contract. Signs and scales first.
use Rattle.lists.proofs.Base.{sym, ap, ◌∙◌, ℕ, ◌*◌}
use Rattle.ordination_coordinates.proofs.OutputParts.{placed}
use Rattle.ordination_coordinates.proofs.scale_vectors.Goals as goal

pub fill_signs-requires : goal.fill_signs-requires
fill_signs-requires c = c.requires.4 ∙ ap (λ (j : ℕ). j * c.args.n) (sym c.requires.1)

pub returns : goal.returns
returns c =
    let a = c.args in
    placed a.n a.k a.values.now a.vectors.now c.requires.1 c.fill_signs.ensures c.fill_scales.ensures c.fill_coords.ensures
