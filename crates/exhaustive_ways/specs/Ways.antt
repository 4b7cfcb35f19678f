-- Section 6: all ways of the labels within strata, and their number M. Definitions only.
-- `ss` and `labels` have one entry for each kept sample: its stratum, and its label as a number below g.
use Rattle.std.specs.Prelude.{ℕ, ◌-◌, ◌/◌, cond, List, [], ◌∷◌, map, ltb}
use Rattle.lists.specs.Ranges.{rows}
use Rattle.lists.specs.Numbers.{productℕ, factorial, how_many, upward}
use Rattle.lot.specs.Lot.{Lot}
use Rattle.lot.specs.Kept.{groups, group_count}
use Rattle.lot.specs.Strata.{strata}
use Rattle.lot.specs.Way.{mark, tally}

-- what is left for each stratum of each label, once a sample of stratum s₀ has the label j₀: one fewer there
unfoldable pub spend : (ℕ → ℕ → ℕ) → ℕ → ℕ → ℕ → ℕ → ℕ
spend left s₀ j₀ s j = left s j - mark s₀ j₀ s j

-- Ways are walked by placing a label on one sample and going on with the rest, one fewer each time. Each label below g has its turn of which one is left
-- for the sample's stratum: `left s j` are left of the label j for the stratum s.
unfoldable pub deal : ℕ → List ℕ → (ℕ → ℕ → ℕ) → List (List ℕ)
deal g [] left = [] ∷ []
deal g (s ∷ ss) left = rows g (λ j. let placed = map (λ way. j ∷ way) (deal g ss (spend left s j)) in cond (ltb 0 (left s j)) placed [])

-- All ways of the labels, by the counts alone: one list, in one order, whichever of the ways the labels are.
unfoldable pub ways_of : ℕ → List ℕ → List ℕ → List (List ℕ)
ways_of g ss labels = deal g ss (tally ss labels)

-- the ways of a lot's kept samples
unfoldable pub ways : Lot → List (List ℕ)
ways lot = ways_of (group_count lot.labels) (strata lot) (groups lot.labels)

-- the product over strata of size!
unfoldable pub size_factorials : List ℕ → ℕ
size_factorials ss = productℕ (map (λ s. factorial (how_many s ss)) (upward ss))

-- the product over strata of the product of label counts!
unfoldable pub label_factorials : List ℕ → List ℕ → ℕ
label_factorials ss labels = productℕ (map (λ s. productℕ (map (λ j. factorial (tally ss labels s j)) (upward labels))) (upward ss))

-- M = product over strata of size!/(product of label counts!), as one quotient
unfoldable pub way_count_of : List ℕ → List ℕ → ℕ
way_count_of ss labels = size_factorials ss / label_factorials ss labels

-- M of a lot
unfoldable pub way_count : Lot → ℕ
way_count lot = way_count_of (strata lot) (groups lot.labels)
