-- The samples still to be labelled fall by one with each call.
use Rattle.lists.proofs.Base.{◌-◌, length}
use Rattle.exhaustive_ways.proofs.+fill.Given as goal

abbrev pub decreases-fill : goal.decreases-fill
decreases-fill l = length l.ss.now - l.at
