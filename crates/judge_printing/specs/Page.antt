-- Section 7: how a contract says what is printed: how many bytes, and what the slice holds. Definitions only.
use Rattle.std.specs.Prelude.{ℕ, List, length}
use Rattle.lists.specs.Writes.{over}

pub record Page : Type 0 where
  pub size : ℕ
  pub bytes : List ℕ

abbrev pub page : ℕ → List ℕ → Page
page size bytes = record { size = size; bytes = bytes }

-- the text at the front of a slice
unfoldable pub onto : List ℕ → List ℕ → Page
onto text before = record { size = length text; bytes = over text before }
