-- Section 5: lines 1, 2, 3, 5 and 9 of the table for `dapc`. Definitions only.
use Rattle.std.specs.Prelude.{ℕ, ◌+◌, ◌*◌, Bool, not, ◌&&◌, ◌||◌, List, [], ◌∷◌, ◌++◌, eqb, ltb, length, Float}
use Rattle.std.specs.Float.Ieee.{neg, le}
use Rattle.limits.specs.Limits.{most_columns, most_samples}
use Rattle.float.specs.Floats.{2^40}
use Rattle.lists.specs.Filters.{any}
use Rattle.outcome.specs.Refusals.{Line, ◌when◌, short}
use Rattle.lot.specs.Kept.{kept_count, group_count}
use Rattle.dapc_discriminant.specs.Dapc.{columns_used}

-- what is asked of outputs: values and scores as for an axis to each column; a group number for each sample
abbrev pub dapc_asks : ℕ → ℕ → List ℕ
dapc_asks n columns = (columns + n * columns) ∷ n ∷ []

-- line 1, for slices of these lengths: coordinates or labels do not fit n, or an output is short
unfoldable pub misfits : ℕ → ℕ → ℕ → ℕ → ℕ → ℕ → Bool
misfits n columns x labels out assigned = not (eqb x (n * columns)) || not (eqb labels n) || short (out ∷ assigned ∷ []) (dapc_asks n columns)

-- line 3: a coordinate is NaN or beyond 2^40 in magnitude
abbrev pub bad_coordinate : Float → Bool
bad_coordinate x = not (le (neg 2^40) x && le x 2^40)

-- lines 1 to 3, then 5 and 9, of the table
unfoldable pub shape_lines : ℕ → ℕ → List Float → ℕ → ℕ → ℕ → List Line
shape_lines n columns x labels out assigned =
    (1 when misfits n columns (length x) labels out assigned)
    ∷ (2 when ltb most_samples n || ltb most_columns columns)
    ∷ (3 when any bad_coordinate x)
    ∷ []

unfoldable pub group_lines : ℕ → ℕ → ℕ → List Line
group_lines columns m g =
    (5 when ltb g 2)
    ∷ (9 when ltb (columns_used columns m g) 2)
    ∷ []

unfoldable pub dapc_lines : ℕ → ℕ → List Float → List ℕ → ℕ → ℕ → List Line
dapc_lines n columns x labels out assigned =
    shape_lines n columns x (length labels) out assigned ++ group_lines columns (kept_count labels) (group_count labels)
