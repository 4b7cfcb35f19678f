-- Lists of places.
use Rattle.lists.proofs.Base.{ℕ, ◌+◌, List, arith, drop, length-drop, get_or-drop}
use Rattle.lists.specs.inner.Numbers.{Below}

-- numbers below m stay below m from a place on
pub below-drop : (m : ℕ) (l : List ℕ) (k : ℕ) → Below m l → Below m (drop k l)
below-drop m l k b x h = rw (get_or-drop k l x 0) (b (k + x) (omega (arith, length-drop k l)))
