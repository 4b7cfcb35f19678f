-- `dapc_scores::nearest_centroid::nearest` meets its contract. After j turns the best of the first j is known.
use Rattle.dapc_scores.specs.Assigned.{gap}
use Rattle.dapc_scores.proofs.Nearing.{Nearing}
use Rattle.dapc_scores.proofs.nearest_centroid.nearest.Given as goal

abbrev pub invariant-loop-j : goal.invariant-loop-j
invariant-loop-j l = Nearing l.g (gap l.axes l.row l.cen 0) l.b.group l.b.gap l.b.unordered l.j
