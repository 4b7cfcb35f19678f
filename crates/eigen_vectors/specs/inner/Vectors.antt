-- Four inner products at once. Definitions only.
use Rattle.std.specs.Prelude.{List, [], ◌∷◌, Float}
use Rattle.eigen_vectors.specs.Vectors.{dot}

-- the inner products of four vectors with x
abbrev pub dot_four : List Float → List Float → List Float → List Float → List Float → List Float
dot_four a b c d x = dot a x ∷ dot b x ∷ dot c x ∷ dot d x ∷ []
