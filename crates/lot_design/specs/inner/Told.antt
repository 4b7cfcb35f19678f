-- What is told of the sample before. Statements only.
use Rattle.std.specs.Prelude.{◌≡◌, Bool, List, ℕ, ◌-◌, ◌<◌, length, get_or}
use Rattle.lot.specs.Strata.{informs}

-- of a sample k that is not the first: whether the stratum of the one before it informs
abbrev pub Told : List ℕ → List ℕ → ℕ → Bool → Type 0
Told ss gs k told = 0 < k → told ≡ informs ss gs (length ss) (get_or ss (k - 1) 0)
