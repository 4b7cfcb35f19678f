-- The groups of kept samples, put on all samples. Definitions only.
use Rattle.std.specs.Prelude.{List, ℕ, length, get_or, set, replicate}
use Rattle.lists.specs.Loops.{in_turn}
use Rattle.limits.specs.Limits.{none}

-- the groups gs go to the samples ks, one after the other; the others hold what they held
abbrev pub put : List ℕ → List ℕ → List ℕ → List ℕ
put ks gs each = in_turn (λ k l. set l (get_or ks k 0) (get_or gs k 0)) (length ks) each

-- the group of each of n samples: gs on the samples ks, none on the others
unfoldable pub placed : ℕ → List ℕ → List ℕ → List ℕ
placed n ks gs = put ks gs (replicate n none)
