-- What the functions return and write that tell the lengths asked of what an operation is lent, its outputs and work in the order of its parameters. The
-- lengths are those that line 1 of the table asks (`test_asks` and the like, beside each operation's line 1). Definitions only.
use Rattle.std.specs.Prelude.{ℕ, Bool, cond, List}
use Rattle.outcome.specs.Outcome.{Outcome, answered, refused}

-- the lengths, or line 2 past one of its limits, where no call is accepted, whatever is lent
unfoldable pub asked : Bool → List ℕ → Outcome (List ℕ)
asked beyond lengths = cond beyond (refused 2) (answered lengths)

-- the number returned, and what the array holds afterwards
pub record Told : Type 0 where
  pub code : ℕ
  pub lengths : List ℕ

-- Past a limit of line 2 no call is accepted, whatever is lent: 2, and the array stays. Else 0 and the lengths.
unfoldable pub tell : Bool → List ℕ → List ℕ → Told
tell beyond asked before = record { code = cond beyond 2 0; lengths = cond beyond before asked }

abbrev pub told : ℕ → List ℕ → Told
told code lengths = record { code = code; lengths = lengths }
