-- Lists of truths as words of 64 bits, the first lowest, and the truths that tell which columns a set has. Definitions only.
use Rattle.std.specs.Prelude.{ℕ, zero, suc, ◌+◌, ◌*◌, Bool, true, false, List, [], ◌∷◌, drop}
use Rattle.std.specs.Int.Bits.{bit_and}
use Rattle.std.specs.Int.Count.{ones}
use Rattle.lists.specs.Ranges.{table}
use Rattle.lists.specs.Numbers.{contains}

abbrev pub bit : Bool → ℕ
bit true = 1
bit false = 0

-- the first d truths as a number
unfoldable pub pack : ℕ → List Bool → ℕ
pack zero l = 0
pack (suc d) [] = 0
pack (suc d) (b ∷ l) = pack d l * 2 + bit b

-- k words
unfoldable pub packed : ℕ → List Bool → List ℕ
packed zero l = []
packed (suc k) l = pack 64 l ∷ packed k (drop 64 l)

-- how many bits stand in both of two rows of words
unfoldable pub common : List ℕ → List ℕ → ℕ
common [] y = 0
common (a ∷ x) [] = 0
common (a ∷ x) (b ∷ y) = ones (bit_and a b) + common x y

-- which of m columns a set has
abbrev pub present : ℕ → List ℕ → List Bool
present m s = table m (λ c. contains c s)
