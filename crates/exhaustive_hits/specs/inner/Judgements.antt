-- The answer, from the summary, M and what was counted. Definitions only.
use Rattle.std.specs.Prelude.{ℕ}
use Rattle.permanova_statistics.specs.declared.summary.Summary.{Summary}
use Rattle.exhaustive_hits.specs.declared.judgement.Judgement.{Judgement}
use Rattle.exhaustive_hits.specs.declared.judgement.Counted.{Counted}

abbrev pub concluded : Summary → ℕ → Counted → Judgement
concluded summary ways c =
    record {
      summary = summary;
      ways = ways;
      location = record { statistic = c.seen.location; hits = c.hits.location };
      dispersion = record { statistic = c.seen.dispersion; hits = c.hits.dispersion };
      assigned = record { statistic = c.seen.assignment; hits = c.hits.assignment };
    }
