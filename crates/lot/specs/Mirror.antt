-- Line 14 of the table (document 02, Q-4): the matrix must mirror itself. Definitions only.
-- `ne` compares as numbers: -0.0 and 0.0 are equal, and a NaN, which is 3 already, differs from everything.
use Rattle.std.specs.Prelude.{ℕ, Bool, ◌||◌, List, Float}
use Rattle.std.specs.Float.Ieee.{ne}
use Rattle.float.specs.Floats.{zero⁺}
use Rattle.lists.specs.Ranges.{range, grid}
use Rattle.lists.specs.Rows.{entry}
use Rattle.lists.specs.Filters.{any}
use Rattle.lot.specs.Lot.{Lot, lot_of}

-- some of the n by n entries differs from its mirror, those of samples that are not kept among them
unfoldable pub asymmetric : ℕ → List Float → Bool
asymmetric n d = any (λ i. any (λ j. ne (entry n d i j) (entry n d j i)) (range 0 n)) (range 0 n)

-- some entry of the diagonal is other than zero
unfoldable pub nonzero_diagonal : ℕ → List Float → Bool
nonzero_diagonal n d = any (λ i. ne (entry n d i i) zero⁺) (range 0 n)

-- the condition of the line
unfoldable pub unmirrored : ℕ → List Float → Bool
unmirrored n d = asymmetric n d || nonzero_diagonal n d

-- ---- the transposed matrix, and a lot with it

-- its entry i, j is entry j, i
unfoldable pub transposed : ℕ → List Float → List Float
transposed n d = grid n n (λ i j. entry n d j i)

-- the lot with other distances
abbrev pub with_distances : Lot → List Float → Lot
with_distances lot d = lot_of lot.n d lot.labels lot.stratified lot.strata lot.weighted lot.weights

abbrev pub transposed_lot : Lot → Lot
transposed_lot lot = with_distances lot (transposed lot.n lot.distances)
