-- `shuffle::swap_drawn` meets its contract. The position drawn is at most i, so both places are labels.
use Rattle.lists.proofs.Base.{refl, arith}
use Rattle.shuffle.proofs.Draws.{place-below, swapped-drawn}
use Rattle.shuffle.proofs.swap_drawn.Goals as goal

pub entry-y-requires : goal.entry-y-requires
entry-y-requires c = omega (arith, place-below c.args.state.now (omega arith) c.draw_below-place.ensures.1, c.requires.0)

pub returns : goal.returns
returns c =
    let a = c.args in
    let place = c.draw_below-place.ensures in
    swapped-drawn a.stratum.now a.lab.now _ a.i a.state.now place.0 place.1 c.entry-x.ensures c.entry-y.ensures refl
