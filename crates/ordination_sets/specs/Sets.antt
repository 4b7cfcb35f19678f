-- Section 4: sets of hashes, each a list in which repeats count, one after the other. Definitions only.
use Rattle.std.specs.Prelude.{ℕ, ◌+◌, ◌-◌, List, get_or, take, drop}
use Rattle.lists.specs.Ranges.{table}

-- the set i, from the hashes of all one after the other and the n + 1 offsets at which they begin and end
unfoldable pub set_at : List ℕ → List ℕ → ℕ → List ℕ
set_at hashes offsets i = take (get_or offsets (i + 1) 0 - get_or offsets i 0) (drop (get_or offsets i 0) hashes)

unfoldable pub sets : ℕ → List ℕ → List ℕ → List (List ℕ)
sets n hashes offsets = table n (set_at hashes offsets)
