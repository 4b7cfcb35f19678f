-- `exhaustive_ways::count_ways` meets its contract: m is M of the samples from k on, and at most 20,000.
use Rattle.lists.proofs.Base.{◌≡◌, ◌≤◌, drop}
use Rattle.limits.specs.Limits.{most_ways}
use Rattle.exhaustive_ways.specs.Ways.{way_count_of}
use Rattle.exhaustive_ways.proofs.count_ways.Given as goal

abbrev pub invariant-loop-k : goal.invariant-loop-k
invariant-loop-k l = (l.m ≤ most_ways) × (l.m ≡ way_count_of (drop l.k l.strata) (drop l.k l.groups))
