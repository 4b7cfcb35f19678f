-- Section 4: lines 1 to 3 of the table for `top_eigs`. Definitions only.
use Rattle.std.specs.Prelude.{ℕ, ◌+◌, ◌*◌, min, Bool, not, ◌||◌, List, [], ◌∷◌, eqb, ltb, length, Float}
use Rattle.limits.specs.Limits.{most_components, most_samples}
use Rattle.lists.specs.Filters.{any}
use Rattle.outcome.specs.Refusals.{Line, ◌when◌, short}
use Rattle.eigen_matrix.specs.Finite.{not_finite}

-- what is asked of slices: the output must hold k values and k rows of n; then w, m and v
abbrev pub top_asks : ℕ → ℕ → List ℕ
top_asks n k = (k + k * n) ∷ (n + n * n) ∷ n * n ∷ n * n ∷ []

-- line 1: the matrix does not have n * n entries, or a slice of this length is short
unfoldable pub misfits : ℕ → ℕ → ℕ → ℕ → ℕ → ℕ → ℕ → Bool
misfits k n a out w m v = not (eqb a (n * n)) || short (out ∷ w ∷ m ∷ v ∷ []) (top_asks n k)

-- line 2: n above 256, components 0 or above 16
unfoldable pub beyond : ℕ → ℕ → Bool
beyond n components = ltb most_samples n || eqb components 0 || ltb most_components components

-- lines 1 to 3 of the table
unfoldable pub top_lines : ℕ → ℕ → List Float → ℕ → ℕ → ℕ → ℕ → List Line
top_lines components n a out w m v =
    (1 when misfits (min components n) n (length a) out w m v)
    ∷ (2 when beyond n components)
    ∷ (3 when any not_finite a)
    ∷ []
