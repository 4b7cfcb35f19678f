-- One pair of entries, and one row of pairs, made symmetric. Definitions only.
use Rattle.std.specs.Prelude.{ℕ, ◌+◌, ◌*◌, List, set, Float}
use Rattle.float.specs.Floats.{◌⊕◌, ◌⊘◌, 2·0}
use Rattle.lists.specs.Loops.{from_to}
use Rattle.lists.specs.Rows.{entry}

-- the entries (i, j) and (j, i) become their mean
unfoldable pub evened : ℕ → ℕ → ℕ → List Float → List Float
evened p i j m = let v = (entry p m i j ⊕ entry p m j i) ⊘ 2·0 in set (set m (i * p + j) v) (j * p + i) v

-- for the entries of row i, right of the diagonal
unfoldable pub evened_row : ℕ → ℕ → List Float → List Float
evened_row p i m = from_to (evened p i) (i + 1) p m
