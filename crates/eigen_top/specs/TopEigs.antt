-- Section 4, `top_eigs`: the eigenpairs of the largest values. Jacobi up to n = 64; above, block iteration and a Rayleigh-Ritz step. Definitions only.
use Rattle.std.specs.Prelude.{ℕ, ◌+◌, min, true, false, List, leb, Float}
use Rattle.outcome.specs.Outcome.{Outcome}
use Rattle.eigen_top.specs.Leading.{leading}
use Rattle.eigen_top.specs.Subspace.{by_block}
-- k values, and k vectors as rows of n
pub use Rattle.eigen_ritz.specs.Ritz.{Pairs}

-- components above n mean n; the block has 8 columns more than asked for, or n
unfoldable pub top_eigs : ℕ → ℕ → List Float → Outcome Pairs
top_eigs components n a =
    let k = min components n in
    elim (leb n 64) as (λ b. Outcome Pairs) [
      | true ↦ leading k n a
      | false ↦ by_block k (min (k + 8) n) n a
    ]
