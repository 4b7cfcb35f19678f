-- The pairs up to n = 64 and above, put together.
use Rattle.lists.proofs.Base.{◌≡◌, refl, sym, ap, ap₂, ◌∙◌, Bool, true, false, List, ℕ, ◌+◌, ◌*◌, ◌<◌, ◌≤◌, min, arith, le-leb, lt-leb, leb, take, Float}
use native.Mathlib.Nat.{mul-le-mul_right, min-le_right, min-eq_left}
use Rattle.float.specs.Floats.{zero⁺}
use Rattle.lists.specs.Writes.{cleared}
use Rattle.outcome.specs.{Outcome.Outcome, Outcome.answered, Outcome.refused, Outcome.and_then, Slices.work}
use Rattle.eigen_jacobi.specs.Eigen.{Eigen, jacobi}
use Rattle.eigen_vectors.specs.Products.{times_block}
use Rattle.eigen_matrix.specs.Symmetric.{symmetrised}
use Rattle.eigen_ritz.specs.{Projected.projected_matrix, RitzVectors.ritz_vectors, Ritz.Pairs, Ritz.rayleigh_ritz}
use Rattle.eigen_jacobi.proofs.Calls.{only-unordered}
use Rattle.eigen_top.specs.{Leading.leading, Subspace.last_block, Subspace.by_block, TopEigs.top_eigs}

-- a block of at most 24 columns has no more entries than the matrix
pub block-fits : (k n : ℕ) → 64 < n → k ≤ 16 → (k + 8) * n ≤ n * n
block-fits k n many few = mul-le-mul_right n (omega arith)

-- the choice at n = 64, with k pairs asked for
abbrev chosen : ℕ → List Float → ℕ → Bool → Outcome Pairs
chosen n a k few = elim few as (λ b. Outcome Pairs) [ true ↦ leading k n a | false ↦ by_block k (min (k + 8) n) n a ]

module _ (k n : ℕ) (a : List Float) (h : k ≤ n) where
  pub top-few : n ≤ 64 → leading k n a ≡ top_eigs k n a
  unfolding top_eigs
  top-few few = sym (ap₂ (chosen n a) (min-eq_left h) (le-leb n 64 few))

  pub top-many : 64 < n → k + 8 ≤ n → by_block k (k + 8) n a ≡ top_eigs k n a
  unfolding top_eigs
  top-many many room = ap (λ (b : ℕ). by_block k b n a) (sym (min-eq_left room)) ∙ sym (ap₂ (chosen n a) (min-eq_left h) (lt-leb n 64 many))

-- components above n mean n
pub top-min : (components n : ℕ) (a : List Float) → top_eigs (min components n) n a ≡ top_eigs components n a
unfolding top_eigs
top-min components n a = ap (λ (k : ℕ). chosen n a k (leb n 64)) (min-eq_left (min-le_right components n))

-- 11 and an answer alike clear the work
pairs-work : (n : ℕ) (a l : List Float) (found : Eigen → Pairs) (o : Outcome Eigen) → o ≡ jacobi n a → cleared zero⁺ l ≡ work zero⁺ (and_then o (λ e. answered (found e))) l
unfolding work and_then
pairs-work n a l found (answered e) h = refl
pairs-work n a l found (refused r) h = rw (only-unordered n a r h)

pub top-work : (components n : ℕ) (a l : List Float) → cleared zero⁺ l ≡ work zero⁺ (top_eigs components n a) l
unfolding top_eigs leading by_block rayleigh_ritz
top-work components n a l = by (min components n) (leb n 64)
  where
    by : (k : ℕ) (few : Bool) → cleared zero⁺ l ≡ work zero⁺ (chosen n a k few) l
    by k true = pairs-work n a l (λ e. record { values = take k e.values; vectors = take (k * n) e.vectors }) (jacobi n a) refl
    by k false =
        let b = min (k + 8) n in
        let q = last_block k b n a in
        let t = symmetrised b (projected_matrix n b q (times_block n a b q)) in
        pairs-work b t l (λ e. record { values = take k e.values; vectors = ritz_vectors n b k e.vectors q }) (jacobi b t) refl
