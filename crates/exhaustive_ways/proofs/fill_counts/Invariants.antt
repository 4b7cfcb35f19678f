-- `exhaustive_ways::fill_counts` meets its contract: the rows count the samples that were passed.
use Rattle.lists.proofs.Base.{length}
use Rattle.exhaustive_ways.proofs.CountsLeft.{Filling}
use Rattle.exhaustive_ways.proofs.fill_counts.Given as goal

abbrev pub invariant-loop-s : goal.invariant-loop-s
invariant-loop-s l = Filling l.g l.strata l.groups l.initial.counts l.counts (length l.yielded)
