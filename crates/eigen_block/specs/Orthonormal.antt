-- Section 4: Gram-Schmidt on a block of b columns of n entries each, one after the other, and the first block. Definitions only.
use Rattle.std.specs.Prelude.{ℕ, zero, suc, ◌*◌, List, [], ◌∷◌, map, Float}
use Rattle.lists.specs.Loops.{in_turn}
use Rattle.lists.specs.Rows.{row, on_row}
use Rattle.splitmix.specs.SplitMix.{advance, uniform}
use Rattle.eigen_vectors.specs.Vectors.{projected_off, unit}

-- column j without its part along column i
unfoldable pub less_projection : ℕ → ℕ → ℕ → List Float → List Float
less_projection n j i q = on_row n (projected_off (row n i q)) j q

-- column j at length 1
unfoldable pub unit_column : ℕ → ℕ → List Float → List Float
unit_column n j q = on_row n unit j q

-- `orthonormalize`: each column without its parts along those before it, then at length 1
unfoldable pub orthonormal : ℕ → ℕ → List Float → List Float
orthonormal n b q = in_turn (λ j u. unit_column n j (in_turn (less_projection n j) j u)) b q

-- the k states of SplitMix64 that follow s
unfoldable pub states : ℕ → ℕ → List ℕ
states zero s = []
states (suc k) s = let t = advance s in t ∷ states k t

-- the first block: drawn from C0FFEE column by column, made orthonormal
unfoldable pub first_block : ℕ → ℕ → List Float
first_block n b = orthonormal n b (map uniform (states (b * n) 0xc0ffee))
