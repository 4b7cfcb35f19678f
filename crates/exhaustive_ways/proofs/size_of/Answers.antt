-- `exhaustive_ways::size_of` meets its contract: the samples that pass are counted.
use Rattle.std.proofs.Common.{rules}
use Rattle.lists.specs.Numbers.{how_many}
use Rattle.lists.proofs.Chains.{count_if_from}
use Rattle.exhaustive_ways.proofs.size_of.Goals as goal

pub returns : goal.returns
unfolding how_many
returns c = search (rules, count_if_from)
