-- `exhaustive_ways::next_way` meets its contract. The walk goes on from the first sample.
use Rattle.exhaustive_ways.proofs.WayOrder.{gone-first}
use Rattle.exhaustive_ways.proofs.next_way.Goals as goal

pub returns : goal.returns
returns c = gone-first c.go_on.result _ _ _ _ _ c.go_on.ensures
