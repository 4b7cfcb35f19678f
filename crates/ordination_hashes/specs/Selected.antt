-- Section 4: the selected hashes of all sets together, each with its mean over the samples. Definitions only.
use Rattle.std.specs.Prelude.{ℕ, Bool, ◌&&◌, List, nat_le, nat_lt, Float}
use Rattle.float.specs.Floats.{◌⊘◌, num}
use Rattle.lists.specs.Filters.{filter}
use Rattle.lists.specs.Numbers.{how_many, upward}

-- a frequency of 2 to n - 1
abbrev pub within : ℕ → ℕ → Bool
within n f = nat_le 2 f && nat_lt f n

-- the hashes with such a frequency, upward; every occurrence counts
unfoldable pub selected : ℕ → List ℕ → List ℕ
selected n hashes = upward (filter (λ h. within n (how_many h hashes)) hashes)

-- the mean of a hash over the samples
unfoldable pub frequency : ℕ → List ℕ → ℕ → Float
frequency n hashes h = num (how_many h hashes) ⊘ num n
