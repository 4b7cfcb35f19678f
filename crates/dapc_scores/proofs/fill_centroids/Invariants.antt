-- `dapc_scores::fill_centroids` meets its contract. After i turns the first i samples are added.
use Rattle.dapc_scores.proofs.Scoring.{CentroidsAdded}
use Rattle.dapc_scores.proofs.fill_centroids.Given as goal

abbrev pub invariant-loop-i : goal.invariant-loop-i
invariant-loop-i l = let s = l.samples in CentroidsAdded s.sizes.axes s.sizes.groups s.groups.now l.scores l.counts l.initial.cen l.cen l.i
