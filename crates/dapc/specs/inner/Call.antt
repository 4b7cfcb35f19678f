-- A call of `dapc` that lines 1 to 3 let pass, by lines 5 and 9. Definitions only.
use Rattle.std.specs.Prelude.{ℕ, List, Float}
use Rattle.outcome.specs.Refusals.{first}
use Rattle.lot.specs.Kept.{kept_count, group_count}
use Rattle.dapc_discriminant.specs.Outputs.{Called}
use Rattle.dapc.specs.DapcLines.{group_lines}
use Rattle.dapc.specs.Call.{call_by}

-- what it leaves
unfoldable pub groups_call : ℕ → ℕ → List Float → List ℕ → List Float → List ℕ → Called
groups_call n columns x labels out assigned = call_by (first (group_lines columns (kept_count labels) (group_count labels))) n columns x labels out assigned
