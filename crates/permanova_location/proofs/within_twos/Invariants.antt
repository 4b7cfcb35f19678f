-- `permanova_location::within_twos` meets its contract. s is always the sum over the parts before 2 j.
use Rattle.lists.proofs.Base.{◌≡◌, ◌*◌, ◌≤◌}
use Rattle.float.specs.Floats.{zero⁻}
use Rattle.lists.specs.{Ranges.table, Sums.sum_from}
use Rattle.grouping.specs.inner.Parts.{part}
use Rattle.permanova_location.specs.Location.{group_within}
use Rattle.permanova_location.proofs.within_twos.Given as goal

abbrev pub invariant-loop-j : goal.invariant-loop-j
invariant-loop-j l = (2 * l.j ≤ l.g) × (l.s ≡ sum_from zero⁻ (table (2 * l.j) (λ k. group_within l.t l.w l.m (part l.groups.starts l.groups.members k))))
