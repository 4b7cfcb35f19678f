-- The lot that the code is given, whose strata and weights may be left out. Definitions only.
use Rattle.std.specs.Prelude.{List, [], Option, is_some, unwrap_or, option_copied}
use Rattle.std.specs.Borrow.{Bor}
use Rattle.lot.specs.declared.Lot.{Lot as Given}
use Rattle.lot.specs.Lot.{Lot, lot_of}

-- what a slice holds that may be left out
abbrev pub held_by : {A : Type 0} → Option (Bor (List A)) → List A
held_by given = unwrap_or (option_copied given) []

-- a lot without strata has none given, and so with weights
abbrev pub lot_given : Given → Lot
lot_given l = lot_of l.n l.distances.now l.labels.now (is_some l.strata) (held_by l.strata) (is_some l.weights) (held_by l.weights)
