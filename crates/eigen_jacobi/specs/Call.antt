-- Section 4, `jacobi_eigen`: a whole call, its answer and what all that is lent holds afterwards (document 01, the table and below it). Definitions only.
use Rattle.std.specs.Prelude.{ℕ, ◌+◌, ◌*◌, Bool, ◌||◌, Result, List, [], ◌∷◌, ◌++◌, ltb, length, Float}
use Rattle.limits.specs.Limits.{most_samples}
use Rattle.float.specs.Floats.{zero⁺}
use Rattle.lists.specs.Filters.{any}
use Rattle.outcome.specs.Refusals.{Line, ◌when◌, first, unfit, short}
use Rattle.outcome.specs.declared.Refusal.{Refusal}
use Rattle.outcome.specs.Numbers as numbers
use Rattle.outcome.specs.Outcome.{Outcome, answered, judged, and_then}
use Rattle.outcome.specs.Slices.{output, work}
use Rattle.eigen_matrix.specs.Finite.{not_finite}
use Rattle.eigen_jacobi.specs.Eigen.{Eigen, jacobi}

-- what is asked of slices: the output must hold n values and n rows of n; then m and v
abbrev pub jacobi_asks : ℕ → List ℕ
jacobi_asks n = (n + n * n) ∷ n * n ∷ n * n ∷ []

-- line 1: the matrix does not have n * n entries, or a slice of this length is short
unfoldable pub misfits : ℕ → List Float → ℕ → ℕ → ℕ → Bool
misfits n a out m v = unfit a (n * n) || short (out ∷ m ∷ v ∷ []) (jacobi_asks n)

-- lines 1 to 3 of the table
unfoldable pub jacobi_lines : ℕ → List Float → ℕ → ℕ → ℕ → List Line
jacobi_lines n a out m v =
    (1 when misfits n a out m v)
    ∷ (2 when ltb most_samples n)
    ∷ (3 when any not_finite a)
    ∷ []

-- the sweeps made, of what is found
unfoldable pub sweeps_of : Outcome Eigen → Outcome ℕ
sweeps_of o = and_then o (λ e. answered e.sweeps)

-- the output afterwards: its first part is n values, then n rows of n
unfoldable pub written : ℕ → Outcome Eigen → List Float → List Float
written n o out = output zero⁺ (λ e. e.values ++ e.vectors) (n + n * n) o out

-- the answer, and the slices afterwards
pub record Called : Type 0 where
  pub answer : Outcome ℕ
  pub out : List Float
  pub m : List Float
  pub v : List Float

-- what a call leaves, by what is found
unfoldable pub leaves : ℕ → Outcome Eigen → List Float → List Float → List Float → Called
leaves n o out m v = record { answer = sweeps_of o; out = written n o out; m = work zero⁺ o m; v = work zero⁺ o v }

-- the meaning of a call of `jacobi_eigen`
unfoldable pub jacobi_call : ℕ → List Float → List Float → List Float → List Float → Called
jacobi_call n a out m v = leaves n (judged (first (jacobi_lines n a (length out) (length m) (length v))) (jacobi n a)) out m v

-- ---- how a contract says it: what is returned, and what the slices hold

abbrev pub outcome_of : Result ℕ Refusal → Outcome ℕ
outcome_of r = numbers.outcome_of r

abbrev pub called : Result ℕ Refusal → List Float → List Float → List Float → Called
called r out m v = record { answer = outcome_of r; out = out; m = m; v = v }
