-- `ordination_coordinates::finish` meets its contract. Signs and scales have room of their own.
use Rattle.lists.proofs.Base.{sym, arith, length-take-le}
use Rattle.ordination_coordinates.proofs.finish.Goals as goal

pub slice_bounds-finish_in-end : goal.slice_bounds-finish_in-end
slice_bounds-finish_in-end c = sym (length-take-le c.args.k _ (omega arith))

pub slice_bounds-finish_in-end-2 : goal.slice_bounds-finish_in-end-2
slice_bounds-finish_in-end-2 c = sym (length-take-le c.args.k _ (omega arith))

pub finish_in-requires : goal.finish_in-requires
finish_in-requires c = (c.requires.0, length-take-le c.args.k _ (omega arith), length-take-le c.args.k _ (omega arith), c.requires.1)
