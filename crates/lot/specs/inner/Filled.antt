-- What a function that fills the front of a slice leaves. Statements only.
use Rattle.std.specs.Prelude.{◌≡◌, ℕ, List, length}
use Rattle.lists.specs.Writes.{over}

-- The slice held `before` and holds `after`: the list stands at its front, of k entries, and the rest stays.
pub record Filled (list before after : List ℕ) (k : ℕ) : Type 0 where
  pub held : after ≡ over list before
  pub many : k ≡ length list
