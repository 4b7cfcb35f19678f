-- The lines of both tests: their order, and that 14 comes after 3 and before all that labels and weights tell.
use Rattle.lists.proofs.Base.{◌≡◌, refl, ◌∙◌, Bool, true, false, ◌||◌, [], ◌∷◌, ◌++◌, map, ℕ}
use Rattle.lists.specs.Filters.{any}
use Rattle.outcome.specs.{Refusals.Line, Refusals.first, Outcome.passed, Outcome.refused}
use Rattle.outcome.proofs.Table.{first_holds, first_passes, first-after, first-before}
use Rattle.lot.specs.{Lot.Lot, Mirror.unmirrored}
use Rattle.lot.specs.Lines.{bad_distance, misfits, size_lines, matrix_lines, label_lines, test_lines}

module _ (lot : Lot) (short beyond : Bool) where
  -- their numbers, in the order in which they are tested
  pub tested-in-order : map (λ (l : Line). l.returned) (test_lines lot short beyond) ≡ 1 ∷ 2 ∷ 3 ∷ 14 ∷ 4 ∷ 5 ∷ []
  unfolding test_lines
  tested-in-order = refl

  -- where lines 1 and 2 pass, what the matrix is refused by is returned, whatever labels and weights are
  module _ (sized : first (size_lines (misfits lot || short) lot.n beyond) ≡ passed) where
    matrix-refused : {k : ℕ} → first (matrix_lines lot.n lot.distances) ≡ refused k → first (test_lines lot short beyond) ≡ refused k
    unfolding test_lines
    matrix-refused e =
        first-after (size_lines (misfits lot || short) lot.n beyond) (matrix_lines lot.n lot.distances ++ label_lines lot.labels lot.weighted lot.weights) sized
        ∙ first-before (matrix_lines lot.n lot.distances) (label_lines lot.labels lot.weighted lot.weights) e

    -- a distance that is not allowed is 3, whatever its mirror is
    pub distance-refused : any bad_distance lot.distances ≡ true → first (test_lines lot short beyond) ≡ refused 3
    distance-refused e = matrix-refused (first_holds 3 _ e)

    -- a matrix of allowed distances that does not mirror itself is 14
    pub mirror-refused : any bad_distance lot.distances ≡ false → unmirrored lot.n lot.distances ≡ true → first (test_lines lot short beyond) ≡ refused 14
    mirror-refused v m = matrix-refused (first_passes 3 _ v ∙ first_holds 14 [] m)
