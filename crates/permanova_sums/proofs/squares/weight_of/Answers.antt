-- `permanova_sums::squares::weight_of` meets its contract. By whether weights are given.
use Rattle.lists.proofs.Base.{rules}
use Rattle.permanova_sums.specs.Squares.{weight_at}
use Rattle.permanova_sums.proofs.squares.weight_of.Goals as goal

pub returns : goal.returns
unfolding weight_at
returns c = search rules
