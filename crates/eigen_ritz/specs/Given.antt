-- How an inner function says which pairs it found: by what it returns, and by an output of just k + k * n entries. Definitions only.
use Rattle.std.specs.Prelude.{ℕ, ◌+◌, ◌*◌, List, ◌++◌, Float}
use Rattle.float.specs.Floats.{zero⁺}
use Rattle.outcome.specs.Outcome.{Outcome}
use Rattle.outcome.specs.Slices.{output}
use Rattle.eigen_ritz.specs.Ritz.{Pairs}

-- the output afterwards: its first part is k values, then k rows of n; zeros on 11
unfoldable pub written : ℕ → ℕ → Outcome Pairs → List Float → List Float
written k n o out = output zero⁺ (λ p. p.values ++ p.vectors) (k + k * n) o out
