-- The named strata with one sample more. Definitions only.
use Rattle.std.specs.Prelude.{ℕ, cond, List, [], ◌∷◌, ◌++◌, eqb}
use Rattle.lists.specs.Numbers.{contains}
use Rattle.limits.specs.Limits.{none}

-- one sample more: its stratum joins those named, unless it is none or stands there
unfoldable pub noted : List ℕ → ℕ → List ℕ
noted ns s = cond (eqb s none) ns (cond (contains s ns) ns (ns ++ (s ∷ [])))
