-- Where a field of a line ends. Definitions only.
use Rattle.std.specs.Prelude.{ℕ, ◌+◌, min, List, length}

-- the place k further on, or the line's end where that comes first
abbrev pub past : List ℕ → ℕ → ℕ → ℕ
past line at k = min (at + k) (length line)
