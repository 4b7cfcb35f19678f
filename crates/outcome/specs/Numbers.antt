-- This paper's number for each name that the code has for a line of the table. Definitions only.
use Rattle.std.specs.Prelude.{ℕ, Result, Ok, Err}
use Rattle.outcome.specs.declared.Refusal.{Refusal}
use Rattle.outcome.specs.declared.Refusal.TheVariants.{Length, Limit, Value, Weight, Labels, Ordination, Hashes, Ways, Columns, Pivot, Unordered, Frame, NoHashes, Mirror}
use Rattle.outcome.specs.Outcome.{Outcome, Told, answered, refused}

abbrev pub number : Refusal → ℕ
number Length = 1
number Limit = 2
number Value = 3
number Weight = 4
number Labels = 5
number Ordination = 6
number Hashes = 7
number Ways = 8
number Columns = 9
number Pivot = 10
number Unordered = 11
number Frame = 12
number NoHashes = 13
number Mirror = 14

-- what the code returns, as an outcome: an answer, or the number of its refusal
abbrev pub outcome_of : {A : Type 0} → Result A Refusal → Outcome A
outcome_of (Ok a) = answered a
outcome_of (Err r) = refused (number r)

-- what a check that the code returns says
abbrev pub told : Result Unit Refusal → Told
told r = outcome_of r
