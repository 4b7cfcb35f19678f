-- Section 5: equations with a lower triangle l, p by p, and with its transpose. Definitions only.
use Rattle.std.specs.Prelude.{ℕ, ◌+◌, List, get_or, set, replicate, Float}
use Rattle.std.specs.Float.{nan}
use Rattle.float.specs.Floats.{◌⊖◌, ◌⊗◌, ◌⊘◌, zero⁺}
use Rattle.lists.specs.Ranges.{table, rows}
use Rattle.lists.specs.Loops.{in_turn, from_to, down_to}
use Rattle.lists.specs.Rows.{entry, row}

-- l x = b from above, and the transpose of l from below: unknown i, from those that are known
unfoldable pub lower_at : ℕ → List Float → List Float → ℕ → List Float → Float
lower_at p l b i x = in_turn (λ k s. s ⊖ entry p l i k ⊗ get_or x k nan) i (get_or b i nan) ⊘ entry p l i i

unfoldable pub solve_lower : ℕ → List Float → List Float → List Float
solve_lower p l b = in_turn (λ i x. set x i (lower_at p l b i x)) p (replicate p zero⁺)

unfoldable pub upper_at : ℕ → List Float → List Float → ℕ → List Float → Float
upper_at p l b i x = from_to (λ k s. s ⊖ entry p l k i ⊗ get_or x k nan) (i + 1) p (get_or b i nan) ⊘ entry p l i i

unfoldable pub solve_upper : ℕ → List Float → List Float → List Float
solve_upper p l b = down_to (λ i x. set x i (upper_at p l b i x)) 0 p (replicate p zero⁺)

-- k rows of b, each solved from below
unfoldable pub solve_rows : ℕ → ℕ → List Float → List Float → List Float
solve_rows k p l b = rows k (λ a. solve_upper p l (row p a b))

-- each column of b solved from above, as a row
unfoldable pub solve_columns : ℕ → List Float → List Float → List Float
solve_columns p l b = rows p (λ j. solve_lower p l (table p (λ i. entry p b i j)))
