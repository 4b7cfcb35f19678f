-- A call of `test` that no line turns away. Definitions only.
use Rattle.std.specs.Prelude.{ℕ}
use Rattle.outcome.specs.Outcome.{answered}
use Rattle.lot.specs.Lot.{Lot}
use Rattle.permanova_sampling.specs.Tested.{tested}
use Rattle.permanova.specs.Call.{Slices, Called, leaves}

-- what it leaves
unfoldable pub accepted : Lot → ℕ → ℕ → Slices → Called
accepted lot seed n before = leaves lot (answered (tested lot seed n)) before
