-- What an operation answers: a value, or the number of the line that turns the call away. Definitions only.
use Rattle.std.specs.Prelude.{ℕ}

pub data Outcome (A : Type 0) : Type 0 where
  answered : A → Outcome A
  refused : ℕ → Outcome A

-- what the table alone says of a call: no line holds, or the number of the first that does
abbrev pub Told : Type 0
Told = Outcome Unit

abbrev pub passed : Told
passed = answered tt

-- an operation answers where no line of the table holds
abbrev pub judged : {A : Type 0} → Told → Outcome A → Outcome A
judged (answered _) out = out
judged (refused k) out = refused k

-- f of an answer; a refusal stays
unfoldable pub and_then : {A B : Type 0} → Outcome A → (A → Outcome B) → Outcome B
and_then (answered a) f = f a
and_then (refused k) f = refused k

-- an outcome without its answer
abbrev pub told_of : {A : Type 0} → Outcome A → Told
told_of (answered _) = passed
told_of (refused k) = refused k

-- 0, or the number of the line
abbrev pub code : {A : Type 0} → Outcome A → ℕ
code (answered _) = 0
code (refused k) = k
