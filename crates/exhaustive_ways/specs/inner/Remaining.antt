-- Section 6: the walk as the code holds it, with the counts left in one list, a row of g numbers for each stratum. Definitions and statements only.
use Rattle.std.specs.Prelude.{ℕ, ◌+◌, ◌*◌, ◌/◌, ◌%◌, ◌≤◌, ◌<◌, List, length, get_or, drop}
use Rattle.lists.specs.Ranges.{table}
use Rattle.lot.specs.Way.{tally}
use Rattle.exhaustive_ways.specs.Ways.{deal}

-- how many of the label j are left for the stratum s
unfoldable pub left_in : ℕ → List ℕ → ℕ → ℕ → ℕ
left_in g counts s j = get_or counts (s * g + j) 0

-- there is a row of g for the stratum of every sample
unfoldable pub HasRows : ℕ → List ℕ → List ℕ → Type 0
HasRows g ss counts = (i : ℕ) → i < length ss → get_or ss i 0 * g + g ≤ length counts

-- The rows at the start, in a list of n numbers: how many of each label each stratum has.
unfoldable pub tallies : ℕ → List ℕ → List ℕ → ℕ → List ℕ
tallies g ss labels n = table n (λ place. tally ss labels (place / g) (place % g))

-- the ways to go on, with the labels of the first k samples placed
unfoldable pub onward : ℕ → List ℕ → List ℕ → ℕ → List (List ℕ)
onward g ss counts k = deal g (drop k ss) (left_in g counts)
