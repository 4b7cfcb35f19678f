-- Section 4, `top_eigs` up to n = 64: the first of all the eigenpairs. Definitions only.
use Rattle.std.specs.Prelude.{ℕ, ◌*◌, List, take, Float}
use Rattle.outcome.specs.Outcome.{Outcome, answered, and_then}
use Rattle.eigen_jacobi.specs.Eigen.{jacobi}
use Rattle.eigen_ritz.specs.Ritz.{Pairs}

-- the first k values of all, and their rows
unfoldable pub leading : ℕ → ℕ → List Float → Outcome Pairs
leading k n a = and_then (jacobi n a) (λ e. answered (record { values = take k e.values; vectors = take (k * n) e.vectors }))
