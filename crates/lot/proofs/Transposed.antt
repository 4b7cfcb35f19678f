-- The transposed matrix: each entry of one stands in the other, so the table says the same of both, and where the matrix mirrors itself both have the
-- same squares.
use Rattle.lists.proofs.Base.{◌≡◌, sym, ap, ap₂, ◌∙◌, subst, Bool, false, ◌||◌, List, [], ◌∷◌, ◌++◌, map, ℕ, ◌+◌, ◌*◌, ◌<◌, arith}
use Rattle.lists.proofs.Base.{length, length-map, Float, nan}
use mathlib.Core.List.{Memᴰ as Member}
use lib.Ieee.{ne, mul, binary64}
use lib.ListN.{get_or-map}
use Rattle.float.specs.Floats.{◌⊗◌, zero⁺}
use Rattle.float.proofs.Equal.{ne_comm, square-same}
use Rattle.lists.specs.{Rows.entry, Filters.any}
use Rattle.lists.proofs.{Searches.any_same, Members.member-get_or, Members.any-members, Members.member-grid}
use Rattle.lists.proofs.{Rows.cell_below, Rows.entry-grid, Ranges.length-grid, Grids.grid-of}
use Rattle.outcome.specs.{Outcome.passed, Refusals.◌when◌, Refusals.first}
use Rattle.lot.specs.{Lot.Lot, Mirror.asymmetric, Mirror.nonzero_diagonal, Mirror.unmirrored, Mirror.transposed, Mirror.transposed_lot}
use Rattle.lot.specs.Lines.{bad_distance, misfits, size_lines, matrix_lines, label_lines, test_lines}
use Rattle.lot.proofs.{Mirrored.mirrors, AcceptedLots.passes}

-- two lists with the same squares, entry by entry
abbrev pub SameSquares : List Float → List Float → Type 0
SameSquares e d = map (λ x. x ⊗ x) e ≡ map (λ x. x ⊗ x) d

-- an entry of the squares; where there is none both sides are a NaN
pub entry-squares : (n : ℕ) (d : List Float) (i j : ℕ) → entry n (map (λ x. x ⊗ x) d) i j ≡ entry n d i j ⊗ entry n d i j
unfolding entry mul
entry-squares n d i j = get_or-map (λ x. x ⊗ x) d (i * n + j) nan

module _ (n : ℕ) (d : List Float) where
  pub length-transposed : length (transposed n d) ≡ n * n
  unfolding transposed
  length-transposed = length-grid n n (λ i j. entry n d j i)

  pub entry-transposed : (i j : ℕ) → i < n → j < n → entry n (transposed n d) i j ≡ entry n d j i
  unfolding transposed
  entry-transposed i j h g = entry-grid n n (λ i j. entry n d j i) i j h g

  -- ---- line 14

  asymmetric-transposed : asymmetric n (transposed n d) ≡ asymmetric n d
  unfolding asymmetric
  asymmetric-transposed =
      any_same _ _ n (λ i h. any_same _ _ n (λ j g. ap₂ ne (entry-transposed i j h g) (entry-transposed j i g h) ∙ ne_comm _ _))

  diagonal-transposed : nonzero_diagonal n (transposed n d) ≡ nonzero_diagonal n d
  unfolding nonzero_diagonal
  diagonal-transposed = any_same _ _ n (λ i h. ap (λ (x : Float). ne x zero⁺) (entry-transposed i i h h))

  pub unmirrored-transposed : unmirrored n (transposed n d) ≡ unmirrored n d
  unfolding unmirrored
  unmirrored-transposed = ap₂ (λ (a b : Bool). a || b) asymmetric-transposed diagonal-transposed

-- ---- of n by n entries

module _ (n : ℕ) (d : List Float) (long : length d ≡ n * n) where
  -- each entry stands in the matrix
  transposed-member : (x : Float) → Member x (transposed n d) → Member x d
  unfolding transposed entry
  transposed-member x m =
      let r = member-grid n n (λ i j. entry n d j i) x m in
      let below = cell_below n n r.1 r.0 r.3 r.2 in
      subst (λ (y : Float). Member y d) r.4 (member-get_or d (r.1 * n + r.0) nan (omega arith))

  pub transposed-twice : transposed n (transposed n d) ≡ d
  unfolding transposed
  transposed-twice = sym (grid-of n n (λ i j. entry n (transposed n d) j i) d (λ i j h g. sym (entry-transposed n d j i g h)) long)

  -- where it mirrors itself
  pub squares-transposed : unmirrored n d ≡ false → SameSquares (transposed n d) d
  squares-transposed e =
      grid-of n n (λ i j. entry n d i j ⊗ entry n d i j) (map (λ x. x ⊗ x) (transposed n d))
      (λ i j h g. entry-squares n (transposed n d) i j ∙ ap (λ (x : Float). x ⊗ x) (entry-transposed n d i j h g)
      ∙ square-same binary64 (entry n d j i) (entry n d i j) ((mirrors n d e).symmetric j i g h))
      (length-map (transposed n d) (λ x. x ⊗ x) ∙ length-transposed n d)
      ∙ sym (grid-of n n (λ i j. entry n d i j ⊗ entry n d i j) (map (λ x. x ⊗ x) d) (λ i j h g. entry-squares n d i j) (length-map d (λ x. x ⊗ x) ∙ long))

-- ---- what the table says

module _ (n : ℕ) (d : List Float) (long : length d ≡ n * n) where
  any-transposed : (p : Float → Bool) → any p (transposed n d) ≡ any p d
  any-transposed p = any-members p (transposed n d) d (transposed-member n d long)
      (λ x m. transposed-member n (transposed n d) (length-transposed n d) x (subst (λ (l : List Float). Member x l) (sym (transposed-twice n d long)) m))

  pub matrix-transposed : matrix_lines n (transposed n d) ≡ matrix_lines n d
  matrix-transposed = λ i. (3 when any-transposed bad_distance i) ∷ (14 when unmirrored-transposed n d i) ∷ []

module _ (lot : Lot) (long : length lot.distances ≡ lot.n * lot.n) where
  misfits-transposed : misfits (transposed_lot lot) ≡ misfits lot
  unfolding misfits
  misfits-transposed = rw (length-transposed, long)

  pub lines-transposed : (short beyond : Bool) → test_lines (transposed_lot lot) short beyond ≡ test_lines lot short beyond
  unfolding test_lines
  lines-transposed short beyond = λ i. size_lines (misfits-transposed i || short) lot.n beyond
      ++ matrix-transposed lot.n lot.distances long i ++ label_lines lot.labels lot.weighted lot.weights

  -- and an accepted lot has the same squares
  pub accepted-squares : (short beyond : Bool) → first (test_lines lot short beyond) ≡ passed → SameSquares (transposed_lot lot).distances lot.distances
  accepted-squares short beyond e = squares-transposed lot.n lot.distances long (passes lot short beyond e).mirrors
