-- `ordination_coordinates::gower::centre_in` meets its contract. Squares, their means, the mean of these, and each row centred in its place.
use Rattle.ordination_coordinates.proofs.Grids.{centred-by}
use Rattle.ordination_coordinates.proofs.gower.centre_in.Goals as goal

pub returns : goal.returns
returns c =
    centred-by c.args.n c.args.d.now c.fill_squares.ensures c.fill_means.ensures
    c.mean-all.ensures c.centre_rows.ensures
