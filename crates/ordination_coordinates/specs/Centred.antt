-- Section 4: Gower's centred matrix of n by n distances (Gower 1966). Definitions only.
use Rattle.std.specs.Prelude.{ℕ, List, map, get_or, Float}
use Rattle.std.specs.Float.{nan}
use Rattle.float.specs.Floats.{◌⊕◌, ◌⊖◌, ◌⊗◌, ◌⊘◌, num, -0·5}
use Rattle.lists.specs.Ranges.{table, grid}
use Rattle.lists.specs.Rows.{entry, row}
use Rattle.lists.specs.Sums.{sum⁻}

-- the squared distances
unfoldable pub squares : List Float → List Float
squares d = map (λ x. x ⊗ x) d

-- the mean of n numbers, and the mean of each row of squares
unfoldable pub mean : ℕ → List Float → Float
mean n l = sum⁻ l ⊘ num n

unfoldable pub row_means : ℕ → List Float → List Float
row_means n s = table n (λ i. mean n (row n i s))

-- a square, from the means of its row and of its column and the mean of all means
unfoldable pub centring : Float → Float → Float → Float → Float
centring x a b all = -0·5 ⊗ (x ⊖ a ⊖ b ⊕ all)

-- entry i, j from the squares s and the row means m
unfoldable pub centred_at : ℕ → List Float → List Float → Float → ℕ → ℕ → Float
centred_at n s m all i j = centring (entry n s i j) (get_or m i nan) (get_or m j nan) all

-- the centred matrix of the distances d
unfoldable pub centred : ℕ → List Float → List Float
centred n d =
    let s = squares d in
    let m = row_means n s in
    grid n n (centred_at n s m (mean n m))
