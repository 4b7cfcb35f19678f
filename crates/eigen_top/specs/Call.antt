-- Section 4: a whole call of `top_eigs`, its answer and what all that is lent holds afterwards (document 01, the table and below it). Definitions only.
use Rattle.std.specs.Prelude.{ℕ, min, Result, List, length, Float}
use Rattle.float.specs.Floats.{zero⁺}
use Rattle.outcome.specs.declared.Refusal.{Refusal}
use Rattle.outcome.specs.Numbers.{told}
use Rattle.outcome.specs.Refusals.{first}
use Rattle.outcome.specs.Outcome.{Outcome, Told, judged, told_of}
use Rattle.outcome.specs.Slices.{work}
use Rattle.eigen_top.specs.TopLines.{top_lines}
use Rattle.eigen_ritz.specs.Ritz.{Pairs}
use Rattle.eigen_ritz.specs.Given.{written}
use Rattle.eigen_top.specs.TopEigs.{top_eigs}

-- the answer, and the slices afterwards
pub record Called : Type 0 where
  pub answer : Told
  pub out : List Float
  pub w : List Float
  pub m : List Float
  pub v : List Float

abbrev pub called : Result Unit Refusal → List Float → List Float → List Float → List Float → Called
called r out w m v = record { answer = told r; out = out; w = w; m = m; v = v }

-- what a call leaves, by what is found
unfoldable pub leaves : ℕ → ℕ → Outcome Pairs → List Float → List Float → List Float → List Float → Called
leaves k n o out w m v = record { answer = told_of o; out = written k n o out; w = work zero⁺ o w; m = work zero⁺ o m; v = work zero⁺ o v }

-- the meaning of a call of `top_eigs`
unfoldable pub top_call : ℕ → ℕ → List Float → List Float → List Float → List Float → List Float → Called
top_call components n a out w m v =
    leaves (min components n) n (judged (first (top_lines components n a (length out) (length w) (length m) (length v))) (top_eigs components n a)) out w m v
