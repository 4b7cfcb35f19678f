-- Runs of equal hashes in their order, and the column of a hash, its place among the selected ones. Definitions only.
use Rattle.std.specs.Prelude.{ℕ, cond, not, List, drop, ◌==◌, slice_index, Option, Some, None}
use Rattle.limits.specs.Limits.{none}
use Rattle.lists.specs.Filters.{first_at}
use Rattle.lists.specs.Numbers.{contains, position}

-- how many places of `order`, from i on, hold the hash that place i holds
unfoldable pub run_from : List ℕ → List ℕ → ℕ → ℕ
run_from hashes order i = first_at (λ q. not (slice_index hashes q == slice_index hashes (slice_index order i))) (drop i order)

-- the column of a hash, where it has one
unfoldable pub column_at : List ℕ → ℕ → Option ℕ
column_at chosen h = cond (contains h chosen) (Some (position h chosen)) None

-- the same as a number, none without a column
unfoldable pub column_of : List ℕ → ℕ → ℕ
column_of chosen h = cond (contains h chosen) (position h chosen) none
