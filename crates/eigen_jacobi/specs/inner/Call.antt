-- A call of `eigen`, which does without the table: what it finds and leaves in an output of just the length. Definitions only.
use Rattle.std.specs.Prelude.{ℕ, Result, Ok, Err, List, take, drop, Float}
use Rattle.outcome.specs.Numbers.{number}
use Rattle.outcome.specs.Outcome.{Outcome, answered, refused}
use Rattle.outcome.specs.declared.Refusal.{Refusal}
use Rattle.eigen_jacobi.specs.Eigen.{Eigen, jacobi}
use Rattle.eigen_jacobi.specs.Call.{written}

-- what is found, read off the answer and the output
abbrev pub eigen_of : ℕ → Result ℕ Refusal → List Float → Outcome Eigen
eigen_of n (Ok k) out = answered (record { values = take n out; vectors = drop n out; sweeps = k })
eigen_of n (Err r) out = refused (number r)

-- what is found, and the output, which 11 zeroes; the work is left as it falls
pub record Solved : Type 0 where
  pub found : Outcome Eigen
  pub out : List Float

abbrev pub solved : ℕ → Result ℕ Refusal → List Float → Solved
solved n r out = record { found = eigen_of n r out; out = out }

-- the meaning of a call of `eigen`
unfoldable pub solution : ℕ → List Float → List Float → Solved
solution n a out = let o = jacobi n a in record { found = o; out = written n o out }
