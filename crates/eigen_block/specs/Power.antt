-- Section 4: the power steps that bound the spectral radius. Definitions only.
use Rattle.std.specs.Prelude.{ℕ, zero, suc, true, false, List, Float}
use Rattle.std.specs.Float.Ieee.{eq}
use Rattle.float.specs.Floats.{zero⁺}
use Rattle.eigen_vectors.specs.Vectors.{norm, divided}
use Rattle.eigen_vectors.specs.Products.{times}

-- at most so many power steps more on x: the length of the last product, at once where it is 0
unfoldable pub power_bound : ℕ → ℕ → List Float → Float → List Float → Float
power_bound zero n a rho x = rho
power_bound (suc more) n a rho x =
    let y = times n a x in
    let r = norm y in
    elim (eq r zero⁺) as (λ b. Float) [ true ↦ r | false ↦ power_bound more n a r (divided r y) ]
