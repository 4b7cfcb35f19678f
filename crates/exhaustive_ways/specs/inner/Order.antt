-- Section 6: the ways in their order, as the code steps through them: those through the first labels that are placed, and those after them. Definitions and
-- statements only.
use Rattle.std.specs.Prelude.{◌≡◌, Bool, true, false, cond, ℕ, zero, suc, ◌+◌, ◌-◌, ◌*◌, ◌≤◌, ◌<◌, ltb, length, get_or, drop, set}
use mathlib.Core.List.{List, [], ◌∷◌, ◌++◌, map, reverse_aux}
use Rattle.limits.specs.Limits.{most_samples}
use Rattle.lists.specs.Ranges.{table}
use Rattle.lists.specs.Numbers.{sumℕ, how_many}
use Rattle.exhaustive_ways.specs.inner.Remaining.{left_in, HasRows, onward}

-- for each stratum as many labels are left as it has samples
unfoldable pub Balanced : ℕ → List ℕ → (ℕ → ℕ → ℕ) → Type 0
Balanced g ss left = (s : ℕ) → sumℕ (table g (left s)) ≡ how_many s ss

-- the place in the rows of the label j for the stratum of sample k
abbrev pub place : ℕ → List ℕ → ℕ → ℕ → ℕ
place g ss k j = get_or ss k 0 * g + j

-- the counts with one taken at a place, and with one given back
abbrev pub taken : List ℕ → ℕ → List ℕ
taken counts p = set counts p (get_or counts p 0 - 1)

abbrev pub given : List ℕ → ℕ → List ℕ
given counts p = set counts p (get_or counts p 0 + 1)

-- the first k labels of a way, from the last of them
unfoldable pub front : List ℕ → ℕ → List ℕ
front way zero = []
front way (suc k) = get_or way k 0 ∷ front way k

-- the ways that begin with these k labels
unfoldable pub through : ℕ → List ℕ → List ℕ → List ℕ → ℕ → List (List ℕ)
through g ss counts labels k = map (reverse_aux labels) (onward g ss counts k)

-- f lo ++ f (lo + 1) ++ .., n of them
unfoldable pub rows_from : {A : Type 0} → ℕ → ℕ → (ℕ → List A) → List A
rows_from lo zero f = []
rows_from lo (suc n) f = f lo ++ rows_from (suc lo) n f

-- the ways through the first labels on which sample k has the label j
unfoldable pub labelled : ℕ → List ℕ → List ℕ → List ℕ → ℕ → ℕ → List (List ℕ)
labelled g ss counts labels k j = let on = through g ss (taken counts (place g ss k j)) (j ∷ labels) (suc k) in cond (ltb 0 (get_or counts (place g ss k j) 0)) on []

-- those on which it has the label j or a later one
unfoldable pub later : ℕ → List ℕ → List ℕ → List ℕ → ℕ → ℕ → List (List ℕ)
later g ss counts labels k j = rows_from j (g - j) (labelled g ss counts labels k)

-- the ways after all that begin with the first k labels of `way`: those with a later label at a sample before, and the labels before it as they are
unfoldable pub after : ℕ → List ℕ → List ℕ → List ℕ → ℕ → List (List ℕ)
after g ss counts way zero = []
after g ss counts way (suc k) =
    let back = given counts (place g ss k (get_or way k 0)) in
    later g ss back (front way k) k (get_or way k 0 + 1) ++ after g ss back way k

-- ---- what the code holds

-- the first k samples have their labels, and the counts are what is left for the others
pub record Node (g : ℕ) (ss counts way : List ℕ) (k : ℕ) : Type 0 where
  pub within : k ≤ length ss
  pub sized : length way ≡ length ss
  pub few : length ss ≤ most_samples
  pub most : g ≤ 128
  pub rows : HasRows g ss counts
  pub balanced : Balanced g (drop k ss) (left_in g counts)
  pub below : (i : ℕ) → i < k → get_or way i 0 < g

-- the first label from j on of which one is left in the row that starts at `row`
pub record NextLabel (g : ℕ) (counts : List ℕ) (row j r : ℕ) : Type 0 where
  pub from : j ≤ r
  pub up_to : r ≤ g
  pub none : (i : ℕ) → j ≤ i → i < r → get_or counts (row + i) 0 ≡ 0
  pub some : r < g → 0 < get_or counts (row + r) 0

-- these ways are those that begin with the first k labels of `way`, and those after them
pub record Onto (g : ℕ) (ss counts way : List ℕ) (k : ℕ) (ways : List (List ℕ)) : Type 0 where
  pub node : Node g ss counts way k
  pub all : ways ≡ through g ss counts (front way k) k ++ after g ss counts way k

-- `way` is the first of these ways
pub record First (g : ℕ) (ss counts way : List ℕ) (ways : List (List ℕ)) : Type 0 where
  pub node : Node g ss counts way (length ss)
  pub all : ways ≡ way ∷ after g ss counts way (length ss)

-- these ways are those after all that begin with the first k labels of `way`
pub record Beyond (g : ℕ) (ss counts way : List ℕ) (k : ℕ) (ways : List (List ℕ)) : Type 0 where
  pub node : Node g ss counts way k
  pub all : ways ≡ after g ss counts way k

-- sample k has a later label, or none is left for it
unfoldable pub Changed : Bool → ℕ → List ℕ → List ℕ → List ℕ → ℕ → List (List ℕ) → Type 0
Changed true g ss counts way k ways = Onto g ss counts way (suc k) ways
Changed false g ss counts way k ways = Beyond g ss counts way k ways

-- the next way has the first k labels, or no way after it has them
unfoldable pub GoneOn : Bool → ℕ → List ℕ → List ℕ → List ℕ → ℕ → List (List ℕ) → Type 0
GoneOn true g ss counts way k ways = First g ss counts way ways
GoneOn false g ss counts way k ways = Beyond g ss counts way k ways

-- there is a next way, or none
unfoldable pub NextWay : Bool → ℕ → List ℕ → List ℕ → List ℕ → List (List ℕ) → Type 0
NextWay true g ss counts way ways = First g ss counts way ways
NextWay false g ss counts way ways = ways ≡ []
