-- `shuffle::shuffle_stratum` meets its contract. The invariant: the swaps from the last position down to i are made.
use Rattle.shuffle.specs.inner.Shuffle.{shuffling}
use Rattle.shuffle.proofs.Draws.{StratumShuffled}
use Rattle.shuffle.proofs.shuffle_stratum.Given as goal

abbrev pub invariant-loop-i : goal.invariant-loop-i
invariant-loop-i l = StratumShuffled l.stratum (shuffling l.initial.state l.initial.lab) (shuffling l.state l.lab) l.i
