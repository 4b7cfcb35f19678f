-- What is left by the lines of the Gram matrix, and by an operation that goes on with the matrix. Definitions and statements only.
use Rattle.std.specs.Prelude.{ℕ, ◌*◌, Bool, ◌≡◌, List, map, take, Float, Result, Ok}
use Rattle.float.specs.Floats.{zero⁺}
use Rattle.outcome.specs.Slices.{output, work}
use Rattle.outcome.specs.declared.Refusal.{Refusal}
use Rattle.ordination_hashes.specs.Selected.{selected, frequency}
use Rattle.ordination_gram.specs.Gram.{gram}
use Rattle.ordination_gram.specs.Call.{features, outcome_of, Called, leaves}

-- What `check_gram` leaves: the answer, and where it is a number of hashes, these and their means, in front of what it was lent.
pub record Checked (n : ℕ) (hashes offsets : List ℕ) (short beyond : Bool) (r : Result ℕ Refusal) (chosen : List ℕ) (means : List Float) : Type 0 where
  pub told : outcome_of r ≡ features n hashes offsets short beyond
  pub stored : (m : ℕ) → r ≡ Ok m → take m chosen ≡ selected n hashes
  pub averages : (m : ℕ) → r ≡ Ok m → take m means ≡ map (frequency n hashes) (selected n hashes)

-- What an operation leaves that goes on with the matrix. `short` says that a slice of the operation is short, `beyond` that another of its arguments is beyond its limit
unfoldable pub matrix_call : ℕ → List ℕ → List ℕ → Bool → Bool → List Float → List ℕ → Called
matrix_call n hashes offsets short beyond b words =
    let o = features n hashes offsets short beyond in
    leaves o (output zero⁺ (λ m. gram n hashes offsets) (n * n) o b) (work 0 o words)
