-- Words of two loops: what a turn writes, and what it counts.
use Rattle.lists.proofs.Base.{List, ℕ, Bool, length, get_or, set}
use Rattle.lot.specs.Strata.{informs}

-- a turn: the group of the sample k goes to its place
abbrev pub turned : List ℕ → List ℕ → ℕ → List ℕ → List ℕ
turned ks gs k l = set l (get_or ks k 0) (get_or gs k 0)

-- whether the stratum of the sample k informs
abbrev pub at : List ℕ → List ℕ → ℕ → Bool
at ss gs k = informs ss gs (length ss) (get_or ss k 0)
