-- Section 5: the answer of `dapc`, and what its outputs hold afterwards. Definitions and statements only.
use Rattle.std.specs.Prelude.{ℕ, ◌+◌, ◌*◌, Result, List, ◌++◌, Float}
use Rattle.float.specs.Floats.{zero⁺}
use Rattle.outcome.specs.Numbers as numbers
use Rattle.outcome.specs.Outcome.{Outcome, answered, and_then}
use Rattle.outcome.specs.declared.Refusal.{Refusal}
use Rattle.outcome.specs.Slices.{output}
use Rattle.dapc_discriminant.specs.declared.Separation.{Separation}
use Rattle.dapc_discriminant.specs.Dapc.{Scores}

-- the answer, and the outputs afterwards
pub record Called : Type 0 where
  pub answer : Outcome Separation
  pub out : List Float
  pub assigned : List ℕ

-- what a call leaves, by what is found: one value per axis and then the scores, and a group number for each sample
unfoldable pub leaves : ℕ → ℕ → ℕ → Outcome Scores → List Float → List ℕ → Called
leaves n p axes o out assigned = record {
  answer = and_then o (λ s. answered (record { columns = p; axes = axes; right = s.right }));
  out = output zero⁺ (λ s. s.values ++ s.scores) (axes + n * axes) o out;
  assigned = output 0 (λ s. s.assigned) n o assigned;
}

-- ---- how a contract says it: what is returned, and what the outputs hold

abbrev pub outcome_of : Result Separation Refusal → Outcome Separation
outcome_of r = numbers.outcome_of r

abbrev pub called : Result Separation Refusal → List Float → List ℕ → Called
called r out assigned = record { answer = outcome_of r; out = out; assigned = assigned }
