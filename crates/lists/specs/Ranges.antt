-- Ranges of whole numbers, and lists made by a rule. Definitions only.
use Rattle.std.specs.Prelude.{ℕ, zero, suc, ◌-◌, List, [], ◌∷◌, ◌++◌, map}

-- the n numbers lo, lo + 1, ..
unfoldable pub up_from : ℕ → ℕ → List ℕ
up_from lo zero = []
up_from lo (suc n) = lo ∷ up_from (suc lo) n

-- lo, lo + 1, .., hi - 1: what `for i in lo..hi` goes through
unfoldable pub range : ℕ → ℕ → List ℕ
range lo hi = up_from lo (hi - lo)

-- f 0, f 1, .., f (n - 1)
unfoldable pub table : {A : Type 0} → ℕ → (ℕ → A) → List A
table n f = map f (up_from 0 n)

-- f 0 ++ f 1 ++ .. ++ f (n - 1)
unfoldable pub rows : {A : Type 0} → ℕ → (ℕ → List A) → List A
rows zero f = []
rows (suc n) f = rows n f ++ f n

-- row by row, f i j for i below n and j below w
unfoldable pub grid : {A : Type 0} → ℕ → ℕ → (ℕ → ℕ → A) → List A
grid n w f = rows n (λ i. table w (f i))
