-- Section 2: squares and weights of the kept samples. Definitions only.
use Rattle.std.specs.Prelude.{ℕ, Bool, cond, List, map, get_or, Float}
use Rattle.std.specs.Float.{nan}
use Rattle.float.specs.Floats.{◌⊗◌, 1·0}
use Rattle.lists.specs.Ranges.{grid}
use Rattle.lists.specs.Rows.{entry}
use Rattle.lot.specs.Lot.{Lot}
use Rattle.lot.specs.Kept.{kept, kept_count}

-- Squares are d times d, between kept samples a and b: ks are the kept samples of n.
unfoldable pub square_at : List Float → ℕ → List ℕ → ℕ → ℕ → Float
square_at distances n ks a b = let d = entry n distances (get_or ks a 0) (get_or ks b 0) in d ⊗ d

-- the weight of sample i: 1 where none are given
unfoldable pub weight_at : Bool → List Float → ℕ → Float
weight_at weighted weights i = cond weighted (get_or weights i nan) 1·0

-- weight·weight·square of a and b, w being the weights of the kept samples
unfoldable pub pair_term_at : List Float → ℕ → List ℕ → List Float → ℕ → ℕ → Float
pair_term_at distances n ks w a b = get_or w a nan ⊗ get_or w b nan ⊗ square_at distances n ks a b

-- weight·square of b, seen from a
unfoldable pub weighted_square_at : List Float → ℕ → List ℕ → List Float → ℕ → ℕ → Float
weighted_square_at distances n ks w a b = get_or w b nan ⊗ square_at distances n ks a b

-- both for each pair of m kept samples, row by row
unfoldable pub pair_terms : List Float → ℕ → List ℕ → List Float → ℕ → List Float
pair_terms distances n ks w m = grid m m (pair_term_at distances n ks w)

unfoldable pub weighted_squares : List Float → ℕ → List ℕ → List Float → ℕ → List Float
weighted_squares distances n ks w m = grid m m (weighted_square_at distances n ks w)

-- ---- of a lot

unfoldable pub weights_of : Lot → List Float
weights_of lot = map (weight_at lot.weighted lot.weights) (kept lot.labels)

unfoldable pub pair_terms_of : Lot → List Float
pair_terms_of lot = pair_terms lot.distances lot.n (kept lot.labels) (weights_of lot) (kept_count lot.labels)

unfoldable pub weighted_squares_of : Lot → List Float
weighted_squares_of lot = weighted_squares lot.distances lot.n (kept lot.labels) (weights_of lot) (kept_count lot.labels)
