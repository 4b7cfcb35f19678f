-- Section 4, `top_eigs` above n = 64: block iteration from seed C0FFEE and a Rayleigh-Ritz step. Definitions only.
use Rattle.std.specs.Prelude.{ℕ, List, replicate, Float}
use Rattle.float.specs.Floats.{◌⊗◌, zero⁺, 1·05}
use Rattle.lists.specs.Rows.{row}
use Rattle.outcome.specs.Outcome.{Outcome}
use Rattle.eigen_vectors.specs.Products.{times_block}
use Rattle.eigen_block.specs.Orthonormal.{first_block}
use Rattle.eigen_block.specs.Power.{power_bound}
use Rattle.eigen_block.specs.Rounds.{iterate}
use Rattle.eigen_ritz.specs.Ritz.{Pairs, rayleigh_ritz}

-- the shift that is to leave no value below 0: 1.05 times what power steps on the block's first column find of the spectral radius
unfoldable pub shift_of : ℕ → List Float → List Float → Float
shift_of n a q = power_bound 30 n a zero⁺ (row n 0 q) ⊗ 1·05

-- the block of b columns at the end of the rounds, which watch the first k Ritz values
unfoldable pub last_block : ℕ → ℕ → ℕ → List Float → List Float
last_block k b n a = let q = first_block n b in iterate 3000 n a b k (shift_of n a q) (replicate k zero⁺) q

-- by a block of b columns
unfoldable pub by_block : ℕ → ℕ → ℕ → List Float → Outcome Pairs
by_block k b n a = let q = last_block k b n a in rayleigh_ritz n b k q (times_block n a b q)
