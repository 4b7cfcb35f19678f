-- The samples from `at` on fall by one with each call.
use Rattle.lists.proofs.Base.{◌-◌, length}
use Rattle.exhaustive_ways.proofs.+go_on.Given as goal

abbrev pub decreases-go_on : goal.decreases-go_on
decreases-go_on l = length l.ss.now - l.at
