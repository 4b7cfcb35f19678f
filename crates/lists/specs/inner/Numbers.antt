-- Lists of numbers below a bound. Statements only.
use Rattle.std.specs.Prelude.{ℕ, ◌<◌, List, length, get_or}

-- each number of the list is below m
abbrev pub Below : ℕ → List ℕ → Type 0
Below m l = (x : ℕ) → x < length l → get_or l x 0 < m
