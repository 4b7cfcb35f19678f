-- `exhaustive_walk::way_statistics::location_of` meets its contract. F over the members of the groups.
use Rattle.lists.proofs.Base.{length}
use Rattle.exhaustive_walk.proofs.WayStatisticsCases.{location-is}
use Rattle.exhaustive_walk.proofs.way_statistics.location_of.Goals as goal

pub within-inside-requires : goal.within-inside-requires
within-inside-requires c = let w = c.args.b.prepared.weighed in (w.pair_terms, w.weights, c.requires)

pub returns : goal.returns
returns c way grouped =
    let b = c.args.b in
    location-is b.frame (length b.samples.now) b.pair_terms.now b.pair_terms.now b.weights.now way c.statistic_of.ensures c.pseudo_f.ensures (c.within-inside.ensures.of_labels way grouped)
