-- `permanova_dispersion::anova::between` meets its contract. The shares from k on, added to s, are always the whole sum.
use Rattle.lists.proofs.Base.{◌≡◌, map}
use Rattle.float.specs.Floats.{zero⁻}
use Rattle.lists.specs.{Ranges.range, Ranges.table, Sums.sum_from}
use Rattle.permanova_sums.specs.PairSums.{at}
use Rattle.permanova_dispersion.specs.Anova.{share}
use Rattle.grouping.specs.inner.Parts.{part}
use Rattle.permanova_dispersion.proofs.anova.between.Given as goal

abbrev pub invariant-loop-k : goal.invariant-loop-k
invariant-loop-k l = sum_from l.s (map (λ k. share (part l.groups.starts l.groups.members k) (at l.means k) l.grand) (range l.k l.g))
    ≡ sum_from zero⁻ (table l.g (λ k. share (part l.groups.starts l.groups.members k) (at l.means k) l.grand))
