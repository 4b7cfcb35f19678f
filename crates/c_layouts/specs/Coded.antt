-- An outcome as a number, and the parts of an answer where they are written: 0 and the answer's parts, or the number of the line (the table) and what
-- was there before. Definitions only.
use Rattle.std.specs.Prelude.{ℕ, List, Float}
use Rattle.outcome.specs.Outcome.{Outcome, answered, refused}

pub record Coded (B : Type 0) : Type 0 where
  pub code : ℕ
  pub parts : B

unfoldable pub coded : {A B : Type 0} → (A → B) → Outcome A → B → Coded B
coded f (answered a) before = record { code = 0; parts = f a }
coded f (refused r) before = record { code = r; parts = before }

abbrev pub coded_as : {B : Type 0} → ℕ → B → Coded B
coded_as code parts = record { code = code; parts = parts }

-- an answer that is laid out as it is
abbrev pub same : {A : Type 0} → A → A
same a = a

-- parts in two arrays
pub record Arrays : Type 0 where
  pub values : List Float
  pub numbers : List ℕ

abbrev pub arrays : List Float → List ℕ → Arrays
arrays values numbers = record { values = values; numbers = numbers }
