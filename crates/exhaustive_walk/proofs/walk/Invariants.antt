-- `exhaustive_walk::walk` meets its contract. The ways done so far are counted, and the next stands in `way`.
use Rattle.lists.proofs.Base.{◌≡◌, ◌∷◌, length}
use Rattle.exhaustive_ways.specs.inner.{Order.after}
use Rattle.exhaustive_walk.specs.inner.OnBasis.{statistics_on}
use Rattle.exhaustive_walk.proofs.WalkCounts.{Walked}
use Rattle.exhaustive_walk.proofs.walk.Given as goal

abbrev pub invariant-ways : goal.invariant-ways
invariant-ways l = (length l.counts ≡ length l.initial.counts) × (length l.way ≡ length l.initial.way) × (length l.scores ≡ length l.initial.scores)
    × Walked l.observed (statistics_on l.b) (l.initial.way ∷ after l.g l.ss l.initial.counts l.initial.way (length l.ss)) l.g l.ss l.counts l.way l.hits

abbrev pub decreases-ways : goal.decreases-ways
decreases-ways l = length (after l.g l.ss l.counts l.way (length l.ss))
