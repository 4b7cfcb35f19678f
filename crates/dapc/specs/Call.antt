-- Section 5: a whole call of `dapc`, its answer and what all that is lent holds afterwards (document 01, the table and below it). Definitions only.
use Rattle.std.specs.Prelude.{ℕ, List, length, Float}
use Rattle.outcome.specs.Refusals.{first}
use Rattle.outcome.specs.Outcome.{Told, judged}
use Rattle.lot.specs.Kept.{group_each, kept_count, group_count}
use Rattle.dapc_discriminant.specs.Dapc.{columns_used, axes_of, dapc}
use Rattle.dapc_discriminant.specs.Outputs.{Called, leaves}
use Rattle.dapc.specs.DapcLines.{dapc_lines}

-- what a call leaves where the table says this of the arguments
unfoldable pub call_by : Told → ℕ → ℕ → List Float → List ℕ → List Float → List ℕ → Called
call_by c n columns x labels out assigned =
    let g = group_count labels in
    let p = columns_used columns (kept_count labels) g in
    leaves n p (axes_of g p) (judged c (dapc n columns x (group_each labels) g)) out assigned

-- the meaning of a call of `dapc`
unfoldable pub dapc_call : ℕ → ℕ → List Float → List ℕ → List Float → List ℕ → Called
dapc_call n columns x labels out assigned = call_by (first (dapc_lines n columns x labels (length out) (length assigned))) n columns x labels out assigned
