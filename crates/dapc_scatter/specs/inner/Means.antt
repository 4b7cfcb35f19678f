-- The groups of samples as numbers below g. Statements only.
use Rattle.std.specs.Prelude.{ℕ, ◌<◌, ◌≡◌, List, length, get_or}
use Rattle.limits.specs.Limits.{none}

-- each sample has one of g groups, or none
abbrev pub Numbered : ℕ → List ℕ → Type 0
Numbered g groups = (i : ℕ) → i < length groups → (get_or groups i 0 ≡ none → ⊥) → get_or groups i 0 < g
