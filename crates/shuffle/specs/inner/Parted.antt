-- A shuffle over the strata as parts of a list of members. Definitions only.
use Rattle.std.specs.Prelude.{ℕ, List}
use Rattle.lists.specs.Loops.{in_turn}
use Rattle.grouping.specs.inner.Parts.{part}
use Rattle.shuffle.specs.Shuffle.{Shuffling, begun, shuffle_stratum}

-- what shuffle t leaves, within each of the s parts in turn
unfoldable pub after_shuffle_by : List ℕ → List ℕ → ℕ → List ℕ → ℕ → ℕ → Shuffling
after_shuffle_by next mem s lab seed t = in_turn (λ k. shuffle_stratum (part next mem k)) s (begun seed t lab)

-- the labels after it
abbrev pub shuffled_by : List ℕ → List ℕ → ℕ → List ℕ → ℕ → ℕ → List ℕ
shuffled_by next mem s lab seed t = (after_shuffle_by next mem s lab seed t).labels
