-- Section 4: a whole call of `pcoa`, its answer and what all that is lent holds afterwards (document 01, the table and below it). Definitions only.
use Rattle.std.specs.Prelude.{ℕ, min, Result, List, length, Float}
use Rattle.float.specs.Floats.{zero⁺}
use Rattle.outcome.specs.declared.Refusal.{Refusal}
use Rattle.outcome.specs.Numbers.{told}
use Rattle.outcome.specs.Refusals.{first}
use Rattle.outcome.specs.Outcome.{Outcome, Told, judged, told_of}
use Rattle.outcome.specs.Slices.{work}
use Rattle.ordination_coordinates.specs.Lines.{pcoa_lines}
use Rattle.ordination_coordinates.specs.Finish.{Coordinates}
use Rattle.ordination_coordinates.specs.Pcoa.{pcoa}
use Rattle.ordination_pcoa.specs.Given.{written}

-- the answer, and the slices afterwards
pub record Called : Type 0 where
  pub answer : Told
  pub out : List Float
  pub b : List Float
  pub w : List Float
  pub m : List Float
  pub v : List Float

abbrev pub called : Result Unit Refusal → List Float → List Float → List Float → List Float → List Float → Called
called r out b w m v = record { answer = told r; out = out; b = b; w = w; m = m; v = v }

-- what a call leaves, by what is found
unfoldable pub leaves : ℕ → ℕ → Outcome Coordinates → List Float → List Float → List Float → List Float → List Float → Called
leaves k n o out b w m v =
    record { answer = told_of o; out = written k n o out; b = work zero⁺ o b; w = work zero⁺ o w; m = work zero⁺ o m; v = work zero⁺ o v }

-- the meaning of a call of `pcoa`
unfoldable pub pcoa_call : ℕ → ℕ → List Float → List Float → List Float → List Float → List Float → List Float → Called
pcoa_call components n d out b w m v =
    let said = first (pcoa_lines components n d (length out) (length b) (length w) (length m) (length v)) in
    leaves (min components n) n (judged said (pcoa components n d)) out b w m v
