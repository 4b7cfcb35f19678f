-- `permanova_sums::sum_rows` meets its contract. In each row the entries still to come, added to its sum, are always the whole sum.
use Rattle.lists.proofs.Base.{◌≡◌, map, drop, length}
use Rattle.lists.specs.{Sums.sum_from, Rows.entry}
use Rattle.permanova_sums.proofs.sum_rows.Given as goal

abbrev pub invariant-loop-x : goal.invariant-loop-x
invariant-loop-x l = (sum_from l.v (map (entry l.m l.t l.a) (drop (length l.yielded) l.p)) ≡ sum_from l.s (map (entry l.m l.t l.a) l.p))
    × (sum_from l.w (map (entry l.m l.t l.b) (drop (length l.yielded) l.q)) ≡ sum_from l.u (map (entry l.m l.t l.b) l.q))
