-- What both tests tell of a lot beside their statistics. Definitions only.
use Rattle.std.specs.Prelude.{ℕ, ◌+◌}
use Rattle.lot.specs.Lot.{Lot}
use Rattle.lot.specs.Kept.{groups, kept_count, group_count}
use Rattle.lot.specs.Strata.{fraction}
use Rattle.permanova_statistics.specs.Statistics.{r_squared_of}
use Rattle.permanova_statistics.specs.Warnings.{warned}
use Rattle.permanova_statistics.specs.declared.summary.Summary.{Summary}

-- bits 0 to 4 of the warnings are the lot's own; `more` has those above
unfoldable pub summary_of : Lot → ℕ → Summary
summary_of lot more =
    record {
      n = kept_count lot.labels;
      n_groups = group_count lot.labels;
      r2 = r_squared_of lot (groups lot.labels);
      informative_fraction = fraction lot;
      warnings = warned lot + more;
    }
