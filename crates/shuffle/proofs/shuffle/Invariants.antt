-- `shuffle::shuffle` meets its contract. After k turns the first k parts are shuffled.
use Rattle.shuffle.specs.inner.Shuffle.{shuffling}
use Rattle.shuffle.proofs.Draws.{PartsShuffled}
use Rattle.shuffle.proofs.shuffle.Given as goal

abbrev pub invariant-loop-k : goal.invariant-loop-k
invariant-loop-k l = PartsShuffled l.strata.starts l.strata.members l.s (shuffling l.initial.state l.initial.lab) (shuffling l.state l.lab) l.k
