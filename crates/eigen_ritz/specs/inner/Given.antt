-- What a search for leading eigenpairs finds and leaves in an output of just the length. Definitions only.
use Rattle.std.specs.Prelude.{ℕ, Result, Ok, Err, List, take, drop, Float}
use Rattle.outcome.specs.declared.Refusal.{Refusal}
use Rattle.outcome.specs.Numbers.{number}
use Rattle.outcome.specs.Outcome.{Outcome, answered, refused}
use Rattle.eigen_ritz.specs.Ritz.{Pairs}
use Rattle.eigen_ritz.specs.Given.{written}

-- what is found, read off the return and the output
abbrev pub pairs_of : ℕ → Result Unit Refusal → List Float → Outcome Pairs
pairs_of k (Ok _) out = answered (record { values = take k out; vectors = drop k out })
pairs_of k (Err r) out = refused (number r)

-- what is found, and the output; the work is left as it falls
pub record Given : Type 0 where
  pub found : Outcome Pairs
  pub out : List Float

abbrev pub given : ℕ → Result Unit Refusal → List Float → Given
given k r out = record { found = pairs_of k r out; out = out }

-- the meaning of a call that finds o
unfoldable pub gives : ℕ → ℕ → Outcome Pairs → List Float → Given
gives k n o out = record { found = o; out = written k n o out }
