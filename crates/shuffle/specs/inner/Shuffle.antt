-- A generator's state and labels. Definitions only.
use Rattle.std.specs.Prelude.{ℕ, List}
use Rattle.shuffle.specs.Shuffle.{Shuffling}

-- what a shuffle left: the state, with the labels
abbrev pub shuffling : ℕ → List ℕ → Shuffling
shuffling s l = record { state = s; labels = l }
