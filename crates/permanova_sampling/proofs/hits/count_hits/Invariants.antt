-- `permanova_sampling::hits::count_hits` meets its contract. The hits so far and those of the shuffles left are always all.
use Rattle.shuffle.specs.inner.Parted.{shuffled_by}
use Rattle.permanova_sampling.proofs.ShuffleHits.{Counting}
use Rattle.permanova_sampling.proofs.hits.count_hits.Given as goal

abbrev pub invariant-loop-i : goal.invariant-loop-i
invariant-loop-i l =
    Counting l.over.pair_terms.now l.over.weights.now l.over.z.now l.sizes l.seen l.over.total
    (shuffled_by l.strata.starts l.strata.members l.sizes.strata l.gs l.draws.seed) l.draws.many l.lab l.hits l.i
