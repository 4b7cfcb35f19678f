-- The pairs of one member of a group. Definitions only.
use Rattle.std.specs.Prelude.{ℕ, ◌+◌, List, map, get_or, drop, Float}
use Rattle.lists.specs.Rows.{entry}

-- the terms of member x with each later one
unfoldable pub later_pair_terms : List Float → ℕ → List ℕ → ℕ → List Float
later_pair_terms t m mem x = map (entry m t (get_or mem x 0)) (drop (x + 1) mem)
