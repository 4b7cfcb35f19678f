-- What a slice holds after writes. Definitions only.
use Rattle.std.specs.Prelude.{List, ◌++◌, length, drop, replicate}

-- a list written over the front of another; the rest stays
unfoldable pub over : {A : Type 0} → List A → List A → List A
over new old = new ++ drop (length new) old

-- every entry replaced by one value
unfoldable pub cleared : {A : Type 0} → A → List A → List A
cleared x old = replicate (length old) x
