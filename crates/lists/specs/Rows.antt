-- A matrix is one list, row by row. Definitions only.
use Rattle.std.specs.Prelude.{ℕ, ◌+◌, ◌*◌, List, ◌++◌, get_or, take, drop, Float}
use Rattle.std.specs.Float.{nan}

-- entry i, j of rows of w entries
unfoldable pub entry : ℕ → List Float → ℕ → ℕ → Float
entry w m i j = get_or m (i * w + j) nan

-- row i of rows of w entries is its own part of the list: that part, another put in its place, and f done to it
unfoldable pub row : {A : Type 0} → ℕ → ℕ → List A → List A
row w i l = take w (drop (i * w) l)

unfoldable pub put_row : {A : Type 0} → ℕ → ℕ → List A → List A → List A
put_row w i r l = take (i * w) l ++ (r ++ drop w (drop (i * w) l))

unfoldable pub on_row : {A : Type 0} → ℕ → (List A → List A) → ℕ → List A → List A
on_row w f i l = put_row w i (f (row w i l)) l
