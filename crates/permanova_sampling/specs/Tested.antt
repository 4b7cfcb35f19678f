-- Section 8: what an accepted lot is answered. Definitions only.
use Rattle.std.specs.Prelude.{ℕ}
use Rattle.lot.specs.Lot.{Lot}
use Rattle.lot.specs.Kept.{groups}
use Rattle.permanova_statistics.specs.Statistics.{location_f, dispersion_f}
use Rattle.permanova_statistics.specs.Warnings.{sizes_of}
use Rattle.permanova_p_values.specs.Together.{together}
use Rattle.permanova_statistics.specs.Summaries.{summary_of}
use Rattle.permanova_sampling.specs.declared.TestResult.{TestResult}
use Rattle.permanova_sampling.specs.Sampled.{location_pvalue, dispersion_pvalue}

unfoldable pub tested : Lot → ℕ → ℕ → TestResult
tested lot seed n =
    let observed = groups lot.labels in
    let p = location_pvalue lot seed n in
    let q = dispersion_pvalue lot seed n in
    record {
      summary = summary_of lot (together (sizes_of lot) p q);
      f = location_f lot observed;
      p = p;
      disp_f = dispersion_f lot observed;
      disp_p = q;
      strata_used = lot.stratified;
      weighted = lot.weighted;
    }
