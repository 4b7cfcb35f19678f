-- Section 4: vectors as lists of f64. Definitions only.
use mathlib.Core.List.{List, map, zip_with}
use Rattle.std.specs.Prelude.{Float}
use Rattle.float.specs.Floats.{◌⊕◌, ◌⊖◌, ◌⊗◌, ◌⊘◌, 1e-300}
use Rattle.float.specs.Order.{larger}
use Rattle.square_root.specs.Root.{root}
use Rattle.lists.specs.Sums.{sum⁻}

-- the inner product
unfoldable pub dot : List Float → List Float → Float
dot x y = sum⁻ (zip_with (λ u v. u ⊗ v) x y)

-- the length of a vector
unfoldable pub norm : List Float → Float
norm x = root (dot x x)

-- x less d times y, x and d times y, x divided by d
unfoldable pub less_times : Float → List Float → List Float → List Float
less_times d x y = zip_with (λ u v. u ⊖ d ⊗ v) x y

unfoldable pub plus_times : Float → List Float → List Float → List Float
plus_times d x y = zip_with (λ u v. u ⊕ d ⊗ v) x y

unfoldable pub divided : Float → List Float → List Float
divided d x = map (λ u. u ⊘ d) x

-- x without its part along y, a vector of length 1
unfoldable pub projected_off : List Float → List Float → List Float
projected_off y x = less_times (dot y x) x y

-- x at length 1: divided by its length, at least 1e-300
unfoldable pub unit : List Float → List Float
unit x = divided (larger (norm x) 1e-300) x
