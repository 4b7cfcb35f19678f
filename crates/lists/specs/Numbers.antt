-- Lists of whole numbers: sums, products, counts, places, order. Definitions only.
use Rattle.std.specs.Prelude.{ℕ, zero, suc, ◌+◌, ◌*◌, Bool, cond, eqb, ltb, get_or}
use mathlib.Core.List.{List, [], ◌∷◌, ◌++◌, foldl, foldr}
use Rattle.lists.specs.Ranges.{range}
use Rattle.lists.specs.Filters.{filter, count_if, any, first_at}

unfoldable pub sumℕ : List ℕ → ℕ
sumℕ [] = 0
sumℕ (x ∷ xs) = x + sumℕ xs

unfoldable pub productℕ : List ℕ → ℕ
productℕ [] = 1
productℕ (x ∷ xs) = x * productℕ xs

unfoldable pub factorial : ℕ → ℕ
factorial zero = 1
factorial (suc n) = suc n * factorial n

-- how many times x stands in the list, whether it does, and the first place where it stands
unfoldable pub how_many : ℕ → List ℕ → ℕ
how_many x xs = count_if (eqb x) xs

unfoldable pub contains : ℕ → List ℕ → Bool
contains x xs = any (eqb x) xs

unfoldable pub position : ℕ → List ℕ → ℕ
position x xs = first_at (eqb x) xs

-- the numbers of the list without repeats, by first appearance
unfoldable pub dedup : List ℕ → List ℕ
dedup xs = foldl (λ seen x. cond (contains x seen) seen (seen ++ (x ∷ []))) [] xs

-- x put into an upward list without repeats, and the numbers of the list without repeats, upward
unfoldable pub insert_up : ℕ → List ℕ → List ℕ
insert_up x [] = x ∷ []
insert_up x (y ∷ ys) = let rest = y ∷ insert_up x ys in cond (ltb x y) (x ∷ y ∷ ys) (cond (eqb x y) (y ∷ ys) rest)

unfoldable pub upward : List ℕ → List ℕ
upward xs = foldr insert_up [] xs

-- the number at place a is j
abbrev pub in_group : List ℕ → ℕ → ℕ → Bool
in_group numbers j a = eqb (get_or numbers a 0) j

-- the members of the group j: the places below m where the number j stands, in order
unfoldable pub members : List ℕ → ℕ → ℕ → List ℕ
members numbers m j = filter (in_group numbers j) (range 0 m)
