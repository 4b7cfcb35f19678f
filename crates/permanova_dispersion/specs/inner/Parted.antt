-- A value worked out from the parts of a list of members, with each group's weight sum and what is inside it at hand. Definitions only.
use Rattle.std.specs.Prelude.{ℕ, List, get_or, Float}
use Rattle.grouping.specs.inner.Parts.{part}
use Rattle.permanova_sums.specs.PairSums.{at}
use Rattle.permanova_dispersion.specs.Dispersion.{weighted_square_sum, value_of}

-- the value of sample a: gw and gi hold the groups' weight sums and insides
unfoldable pub value_by : List Float → List ℕ → ℕ → List ℕ → List ℕ → List Float → List Float → ℕ → Float
value_by p lab m next mem gw gi a = let l = get_or lab a 0 in value_of (weighted_square_sum p m (part next mem l) a) (at gw l) (at gi l)
