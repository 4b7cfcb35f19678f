-- `exhaustive::ways_of` meets its contract. The ways of the design's groups within its strata.
use Rattle.exhaustive.proofs.PassedLines.{ways-by}
use Rattle.exhaustive.proofs.ways_of.Goals as goal

pub returns : goal.returns
returns c lot e = ways-by lot e c.count_ways.ensures
