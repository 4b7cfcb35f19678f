-- Sums of f64 in a fixed order, left to right, each addition rounded once. Definitions only.
use Rattle.std.specs.Prelude.{List, [], ◌∷◌, Float}
use Rattle.float.specs.Floats.{◌⊕◌, zero⁺, zero⁻}

-- s + x₀ + x₁ + ..
unfoldable pub sum_from : Float → List Float → Float
sum_from s [] = s
sum_from s (x ∷ xs) = sum_from (s ⊕ x) xs

-- where the Rust writes `sum`, and where it adds into a variable of its own
abbrev pub sum⁻ : List Float → Float
sum⁻ xs = sum_from zero⁻ xs

abbrev pub sum⁺ : List Float → Float
sum⁺ xs = sum_from zero⁺ xs
