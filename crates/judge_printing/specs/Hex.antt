-- Section 7: numbers in lower case hexadecimal. Definitions only.
use Rattle.std.specs.Prelude.{ℕ, zero, suc, ◌+◌, ◌*◌, ◌/◌, ◌%◌, ◌^◌, cond, List, [], ◌∷◌, ltb}
use Rattle.limits.specs.Limits.{line_feed}

-- `0` to `9`, `a` to `f`
abbrev pub digit : ℕ → ℕ
digit v = cond (ltb v 10) (48 + v) (87 + v)

-- v in d digits, four bits each
unfoldable pub hex : ℕ → ℕ → List ℕ
hex zero v = []
hex (suc d) v = digit (v / 2 ^ (4 * d) % 16) ∷ hex d v

-- the line feed that ends each line
abbrev pub feed : List ℕ
feed = line_feed ∷ []
