-- How many entries are turned back.
use Rattle.lists.proofs.Base.{◌≡◌, List, ℕ, ◌*◌, length, Float}
use Rattle.lists.proofs.Ranges.{length-grid}
use Rattle.eigen_ritz.specs.RitzVectors.{ritz_vector_at, ritz_vectors}

pub length-combined : (n b k : ℕ) (v q : List Float) → length (ritz_vectors n b k v q) ≡ k * n
unfolding ritz_vectors
length-combined n b k v q = length-grid k n (ritz_vector_at n b v q)
