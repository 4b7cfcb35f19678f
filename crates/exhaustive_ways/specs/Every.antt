-- Section 6: a walk meets every way. Statements only.
use Rattle.std.specs.Prelude.{◌≡◌, ℕ, length}
use mathlib.Core.List.{List, [], ◌∷◌, Memᴰ as Member}
use Rattle.lot.specs.Lot.{Lot}
use Rattle.lot.specs.Way.{IsWay}
use Rattle.exhaustive_ways.specs.Ways.{way_count}

-- no member stands at two places: equal label lists are one way
unfoldable pub Distinct : {A : Type 0} → List A → Type 0
Distinct [] = Unit {0}
Distinct (x ∷ xs) = (Member x xs → ⊥) × Distinct xs

-- A walk, in any order, meets every way, nothing else and none twice, and M is their number.
pub record Every (lot : Lot) (walk : List (List ℕ)) : Type 0 where
  pub sound : (way : List ℕ) → Member way walk → IsWay lot way
  pub complete : (way : List ℕ) → IsWay lot way → Member way walk
  pub once : Distinct walk
  pub many : length walk ≡ way_count lot
