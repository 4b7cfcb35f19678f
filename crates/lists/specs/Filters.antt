-- Tests on the members of a list, and its pairs. Definitions only.
use Rattle.std.specs.Prelude.{ℕ, suc, ◌+◌, Bool, true, false, ◌&&◌, ◌||◌, cond, List, [], ◌∷◌, ◌++◌, map}

-- the members that pass the test p, in order
unfoldable pub filter : {A : Type 0} → (A → Bool) → List A → List A
filter p [] = []
filter p (x ∷ xs) = let rest = filter p xs in cond (p x) (x ∷ rest) rest

-- how many pass
unfoldable pub count_if : {A : Type 0} → (A → Bool) → List A → ℕ
count_if p [] = 0
count_if p (x ∷ xs) = cond (p x) 1 0 + count_if p xs

-- whether any passes, and whether all do
unfoldable pub any : {A : Type 0} → (A → Bool) → List A → Bool
any p [] = false
any p (x ∷ xs) = p x || any p xs

unfoldable pub all : {A : Type 0} → (A → Bool) → List A → Bool
all p [] = true
all p (x ∷ xs) = p x && all p xs

-- the place of the first that passes; past the end where none does
unfoldable pub first_at : {A : Type 0} → (A → Bool) → List A → ℕ
first_at p [] = 0
first_at p (x ∷ xs) = let rest = suc (first_at p xs) in cond (p x) 0 rest

-- f at each pair, the first before the second: the first member with each later one, then the pairs of the rest
unfoldable pub pairs : {A B : Type 0} → (A → A → B) → List A → List B
pairs f [] = []
pairs f (x ∷ xs) = map (f x) xs ++ pairs f xs

-- f at each ordered pair, row by row: each of xs with every one of ys
unfoldable pub ordered_pairs : {A B C : Type 0} → (A → B → C) → List A → List B → List C
ordered_pairs f [] ys = []
ordered_pairs f (x ∷ xs) ys = map (f x) ys ++ ordered_pairs f xs ys
