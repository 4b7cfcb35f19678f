-- `ordination_gram::columns::square_sum` meets its contract: the squares that are left, added to s, give the whole sum.
use Rattle.lists.proofs.Base.{◌≡◌, map, drop}
use Rattle.float.specs.Floats.{zero⁻}
use Rattle.lists.specs.Sums.{sum_from}
use Rattle.ordination_gram.specs.inner.Columns.{square}
use Rattle.ordination_gram.proofs.columns.square_sum.Given as goal

abbrev pub invariant-loop-x : goal.invariant-loop-x
invariant-loop-x l = sum_from l.s (map square (drop l.x-index l.means)) ≡ sum_from zero⁻ (map square l.means)
