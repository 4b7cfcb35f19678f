-- Section 6: the assignment of labels by `dapc`. Definitions only.
use Rattle.std.specs.Prelude.{ℕ, ◌+◌, ◌*◌, min, List, replicate, Float, Option, Some, None}
use Rattle.float.specs.Floats.{zero⁺}
use Rattle.outcome.specs.Outcome.{Outcome, answered, refused}
use Rattle.dapc_discriminant.specs.declared.Separation.{Separation}
use Rattle.dapc.specs.Call.{dapc_call}

-- `pcoa` has 8 components, or n where n is less
abbrev pub columns_of : ℕ → ℕ
columns_of n = min 8 n

-- the right count of what `dapc` answers, or none where it refuses
unfoldable pub right_count : Outcome Separation → Option ℕ
right_count (answered s) = Some s.right
right_count (refused r) = None

-- `dapc` of n samples, on coordinates x in rows of `columns`, by these labels, with outputs that fit
unfoldable pub assignment : ℕ → ℕ → List Float → List ℕ → Option ℕ
assignment n columns x labels = right_count (dapc_call n columns x labels (replicate (columns + n * columns) zero⁺) (replicate n 0)).answer
