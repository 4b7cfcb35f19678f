-- Section 8: shuffles within strata. Definitions only.
use Rattle.std.specs.Prelude.{ℕ, List}
use Rattle.lists.specs.Ranges.{table}
use Rattle.lists.specs.Numbers.{members}
use Rattle.shuffle.specs.Shuffle.{Shuffling, begun, shuffle}

-- the strata as lists of kept samples, upward: s of them, ss the stratum of each of m samples
unfoldable pub parts : List ℕ → ℕ → ℕ → List (List ℕ)
parts ss m s = table s (members ss m)

-- what shuffle t leaves
unfoldable pub after_shuffle : List (List ℕ) → List ℕ → ℕ → ℕ → Shuffling
after_shuffle strata lab seed t = shuffle strata (begun seed t lab)

-- the labels after it
abbrev pub shuffled : List (List ℕ) → List ℕ → ℕ → ℕ → List ℕ
shuffled strata lab seed t = (after_shuffle strata lab seed t).labels
