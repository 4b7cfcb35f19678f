-- How an inner function says which coordinates it found: by what it returns, and by an output of just k + k + n * k entries. Definitions only.
use Rattle.std.specs.Prelude.{ℕ, ◌+◌, ◌*◌, List, Float}
use Rattle.float.specs.Floats.{zero⁺}
use Rattle.outcome.specs.Outcome.{Outcome}
use Rattle.outcome.specs.Slices.{output}
use Rattle.ordination_coordinates.specs.Finish.{Coordinates, laid}

-- the output afterwards: its first part is k values, k shares and coordinates n by k; zeros on 11
unfoldable pub written : ℕ → ℕ → Outcome Coordinates → List Float → List Float
written k n o out = output zero⁺ laid (k + k + n * k) o out
