-- `ordination_coordinates::gower::centre` meets its contract. The means have room of their own.
use Rattle.lists.proofs.Base.{sym, arith, length-take-le}
use Rattle.ordination_coordinates.proofs.gower.centre.Goals as goal

pub slice_bounds-centre_in-end : goal.slice_bounds-centre_in-end
slice_bounds-centre_in-end c = sym (length-take-le c.args.n _ (omega arith))

pub centre_in-requires : goal.centre_in-requires
centre_in-requires c = (c.requires.0, length-take-le c.args.n _ (omega arith), c.requires.1, c.requires.2)
