-- The lots of document 01's judged samples of the trade. Definitions only.
use Rattle.std.specs.Prelude.{false, List, [], ◌∷◌, map, ℕ, replicate, Float}
use Rattle.float.specs.Floats.{num, zero⁺}
use Rattle.lot.specs.Lot.{Lot, lot_of}

-- the example of section 7, with these labels: cases (c) to (e)
abbrev pub example : List ℕ → Lot
example labels =
    lot_of 4
    (map num (
    0 ∷ 2 ∷ 8 ∷ 10
    ∷ 2 ∷ 0 ∷ 6 ∷ 8
    ∷ 8 ∷ 6 ∷ 0 ∷ 2
    ∷ 10 ∷ 8 ∷ 2 ∷ 0
    ∷ []))
    labels false [] false []

-- all distances 0: case (f)
abbrev pub zeros : Lot
zeros = lot_of 4 (replicate 16 zero⁺) (0 ∷ 0 ∷ 1 ∷ 1 ∷ []) false [] false []

-- three samples with labels 0, 0, 1: case (h)
abbrev pub three : List Float → Lot
three d = lot_of 3 d (0 ∷ 0 ∷ 1 ∷ []) false [] false []
