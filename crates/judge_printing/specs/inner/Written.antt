-- What the functions that print a part of a text leave. Statements only.
use Rattle.std.specs.Prelude.{ℕ, ◌+◌, ◌≡◌, List, length}
use Rattle.std.proofs.lemmas.List.Edits.{sets}

-- text, of so many bytes, was written over old from place at on: new is what is held then, and next the place after it
pub record Wrote (old : List ℕ) (at size : ℕ) (text new : List ℕ) (next : ℕ) : Type 0 where
  pub size_is : length text ≡ size
  pub next-is : next ≡ at + size
  pub new_is : new ≡ sets old at text
