-- `shuffle::shuffle_again` meets its contract. From a copy of the labels and the state of shuffle t.
use Rattle.shuffle.proofs.Draws.{after_shuffle-again}
use Rattle.shuffle.proofs.shuffle_again.Goals as goal

pub returns : goal.returns
returns c =
    let a = c.args in
    after_shuffle-again a.strata.now.starts a.strata.now.members a.s a.seed a.t c.seeded-state.ensures c.copy_from_slice.ensures.after c.shuffle.ensures
