-- Section 4, `pcoa` (Gower 1966) and `hash_pca`: the coordinates of n samples on the leading components. Definitions only.
use Rattle.std.specs.Prelude.{ℕ, List, Float}
use Rattle.outcome.specs.Outcome.{Outcome, answered, and_then}
use Rattle.eigen_matrix.specs.Trace.{trace}
use Rattle.ordination_coordinates.specs.Centred.{centred}
use Rattle.eigen_top.specs.TopEigs.{top_eigs}
use Rattle.ordination_gram.specs.Gram.{gram}
use Rattle.ordination_coordinates.specs.Finish.{Coordinates, finish}

-- of an n by n matrix b, by its leading eigenpairs; the total variance is its trace, components above n mean n, and a NaN among the values to be ordered is 11
unfoldable pub ordinate : ℕ → ℕ → List Float → Outcome Coordinates
ordinate components n b = and_then (top_eigs components n b) (λ p. answered (finish n (trace n b) p.values p.vectors))

-- of n by n distances d
unfoldable pub pcoa : ℕ → ℕ → List Float → Outcome Coordinates
pcoa components n d = ordinate components n (centred n d)

-- of n sets of hashes
unfoldable pub hash_pca : ℕ → ℕ → List ℕ → List ℕ → Outcome Coordinates
hash_pca components n hashes offsets = ordinate components n (gram n hashes offsets)
