-- Lines 1 to 5 of the table, and 14, for a lot of any n (document 01, "What a turned-away lot returns", and document 02, Q-4). Definitions only.
use Rattle.std.specs.Prelude.{ℕ, ◌*◌, Bool, not, ◌&&◌, ◌||◌, List, [], ◌∷◌, ◌++◌, ltb, Float}
use Rattle.std.specs.Float.Ieee.{le}
use Rattle.limits.specs.Limits.{most_samples}
use Rattle.float.specs.Floats.{zero⁺, 2^-20, 2^20}
use Rattle.lists.specs.Filters.{any}
use Rattle.outcome.specs.Refusals.{Line, ◌when◌, unfit}
use Rattle.lot.specs.Lot.{Lot}
use Rattle.lot.specs.Kept.{group_count}
use Rattle.lot.specs.Mirror.{unmirrored}

-- a distance is 0 to 2^20, a weight 2^-20 to 2^20
abbrev pub bad_distance : Float → Bool
bad_distance d = not (le zero⁺ d && le d 2^20)

abbrev pub bad_weight : Float → Bool
bad_weight w = not (le 2^-20 w && le w 2^20)

-- a lot whose parts do not fit n; strata and weights that are not given are not looked at
unfoldable pub misfits : Lot → Bool
misfits lot =
    let n = lot.n in
    unfit lot.distances (n * n) || unfit lot.labels n || (lot.stratified && unfit lot.strata n) || (lot.weighted && unfit lot.weights n)

-- ---- the lines in groups, each of which stands by itself

-- 1 and 2: `misfit` says that a length does not fit n or a lent slice is short, `beyond` that an argument other than n is beyond its limit
abbrev pub size_lines : Bool → ℕ → Bool → List Line
size_lines misfit n beyond = (1 when misfit) ∷ (2 when ltb most_samples n || beyond) ∷ []

-- 3 and 14, of n by n distances alone
abbrev pub matrix_lines : ℕ → List Float → List Line
matrix_lines n distances = (3 when any bad_distance distances) ∷ (14 when unmirrored n distances) ∷ []

-- 4 and 5, of labels and weights
abbrev pub label_lines : List ℕ → Bool → List Float → List Line
label_lines labels weighted weights = (4 when weighted && any bad_weight weights) ∷ (5 when ltb (group_count labels) 2) ∷ []

-- Both tests: `short` says that an output or work slice is short, `beyond` that another argument is beyond its limit.
unfoldable pub test_lines : Lot → Bool → Bool → List Line
test_lines lot short beyond = size_lines (misfits lot || short) lot.n beyond ++ matrix_lines lot.n lot.distances ++ label_lines lot.labels lot.weighted lot.weights
