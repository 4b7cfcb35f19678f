-- Offsets that are in order. Statements only.
use Rattle.std.specs.Prelude.{ℕ, ◌+◌, ◌≤◌, ◌<◌, ◌≡◌, List, length, get_or}

-- n + 1 offsets that never fall, none above the number of hashes
pub record Offsets (n : ℕ) (offsets : List ℕ) (total : ℕ) : Type 0 where
  pub entries : length offsets ≡ n + 1
  pub climb : (i : ℕ) → i < n → get_or offsets i 0 ≤ get_or offsets (i + 1) 0
  pub bound : (i : ℕ) → i < n → get_or offsets (i + 1) 0 ≤ total
