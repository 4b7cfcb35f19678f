-- `exhaustive_walk::way_statistics::statistics_of` meets its contract. Location and dispersion, and the assignment.
use Rattle.lists.proofs.Base.{length}
use Rattle.exhaustive_walk.proofs.WayStatisticsCases.{statistics-are}
use Rattle.exhaustive_walk.proofs.way_statistics.statistics_of.Goals as goal

pub returns : goal.returns
returns c =
    let b = c.args.b in
    statistics-are b.frame (length b.samples.now) b.pair_terms.now b.weighted_squares.now b.weights.now b.coords.now b.samples.now c.args.way.now
    c.both_of-both.ensures.0 c.both_of-both.ensures.1 c.assignment_of-assignment.ensures
