-- `permanova_sums::add_pairs` meets its contract. In each list the pairs from x on, added to its sum, are always the whole sum.
use Rattle.lists.proofs.Base.{◌≡◌, drop}
use Rattle.lists.specs.{Filters.pairs, Sums.sum_from, Rows.entry}
use Rattle.permanova_sums.proofs.add_pairs.Given as goal

abbrev pub invariant-loop-x : goal.invariant-loop-x
invariant-loop-x l = (sum_from l.v (pairs (entry l.m l.t) (drop l.x l.p)) ≡ sum_from l.s (pairs (entry l.m l.t) l.p))
    × (sum_from l.w (pairs (entry l.m l.t) (drop l.x l.q)) ≡ sum_from l.u (pairs (entry l.m l.t) l.q))
