-- Section 8: warning bits 5 and 6, which read both p. Definitions only.
use Rattle.std.specs.Prelude.{ℕ, max, min, ◌&&◌, cond, Float, Option, Some, None}
use mathlib.Core.List.{List, foldr}
use Rattle.std.specs.Float.Ieee.{lt, le}
use Rattle.float.specs.Floats.{◌⊗◌, num, 0·05, 0·2, 3·0}
use Rattle.permanova_p_values.specs.WarningBits.{bit}

-- the largest and the smallest group
unfoldable pub largest : List ℕ → ℕ
largest sizes = foldr max 0 sizes

unfoldable pub smallest : List ℕ → ℕ
smallest sizes = foldr min (largest sizes) sizes

-- Both p < 0.05; else location p < 0.05, largest group at least 3 times the smallest and dispersion p < 0.2.
unfoldable pub alarmed : Float → Float → ℕ → ℕ → ℕ
alarmed p q most least = cond (lt p 0·05 && lt q 0·05) 32 (bit 64 (lt p 0·05 && le (3·0 ⊗ num least) (num most) && lt q 0·2))

-- Both bits need both p.
unfoldable pub together : List ℕ → Option Float → Option Float → ℕ
together sizes None None = 0
together sizes None (Some q) = 0
together sizes (Some p) None = 0
together sizes (Some p) (Some q) = alarmed p q (largest sizes) (smallest sizes)
