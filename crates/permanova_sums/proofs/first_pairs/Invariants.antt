-- `permanova_sums::first_pairs` meets its contract. s is always the sum over the rows before x.
use Rattle.lists.proofs.Base.{◌≡◌, ◌≤◌}
use Rattle.float.specs.Floats.{zero⁺}
use Rattle.lists.specs.{Ranges.rows, Sums.sum_from}
use Rattle.permanova_sums.specs.inner.PairSums.{later_pair_terms}
use Rattle.permanova_sums.proofs.first_pairs.Given as goal

abbrev pub invariant-loop-x : goal.invariant-loop-x
invariant-loop-x l = (l.x ≤ l.n) × (l.s ≡ sum_from zero⁺ (rows l.x (later_pair_terms l.t l.m l.mem)))
