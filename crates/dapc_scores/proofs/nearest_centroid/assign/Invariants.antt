-- `dapc_scores::nearest_centroid::assign` meets its contract. After i turns the first i samples are assigned and counted.
use Rattle.dapc_scores.proofs.Assigning.{Assigning}
use Rattle.dapc_scores.proofs.nearest_centroid.assign.Given as goal

abbrev pub invariant-loop-i : goal.invariant-loop-i
invariant-loop-i l = let s = l.samples in Assigning s.sizes.axes s.sizes.groups s.groups.now l.scores l.cen l.initial.found l.found l.right l.unordered l.i
