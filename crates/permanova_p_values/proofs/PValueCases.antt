-- How many hits there can be.
use Rattle.lists.proofs.Base.{◌≡◌, Bool, ℕ, ◌≤◌, arith}
use Rattle.lists.specs.{Ranges.range, Filters.count_if}
use Rattle.lists.proofs.{Ranges.length-range, Filters.count_if-below}

-- there are at most n hits among n
pub hits_few : (p : ℕ → Bool) (n : ℕ) {a : ℕ} → a ≡ count_if p (range 0 n) → a ≤ n
hits_few p n e = omega (arith, count_if-below p (range 0 n), length-range 0 n)
