-- Entries that line 3 of the table turns away. Definitions only.
use Rattle.std.specs.Prelude.{Bool, not, Float}
use Rattle.std.specs.Float.Ieee.Scale.{finite}

abbrev pub not_finite : Float → Bool
not_finite x = not (finite x)
