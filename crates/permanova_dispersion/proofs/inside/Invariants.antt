-- `permanova_dispersion::inside` meets its contract. The rows of ordered pairs from x on, added to s, are always the whole sum.
use Rattle.lists.proofs.Base.{◌≡◌, drop}
use Rattle.lists.specs.{Filters.ordered_pairs, Sums.sum_from, Rows.entry}
use Rattle.permanova_dispersion.specs.Dispersion.{inside}
use Rattle.permanova_dispersion.proofs.inside.Given as goal

abbrev pub invariant-loop-a : goal.invariant-loop-a
invariant-loop-a l = sum_from l.s (ordered_pairs (entry l.m l.t) (drop l.a-index l.mem) l.mem) ≡ inside l.t l.m l.mem
