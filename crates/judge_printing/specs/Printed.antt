-- Section 7: what `lotjudge` prints. Definitions only.
use Rattle.std.specs.Prelude.{ℕ, cond, List, ◌++◌, Option}
use Rattle.float.specs.Floats.{bits}
use Rattle.outcome.specs.Outcome.{Outcome, answered, refused}
use Rattle.permanova_p_values.specs.declared.Statistic.{Statistic}
use Rattle.permanova_p_values.specs.Hits.{state_of, value_of}
use Rattle.exhaustive_hits.specs.WayHits.{is_given, right_of}
use Rattle.exhaustive_hits.specs.declared.judgement.Judgement.{Judgement}
use Rattle.judge_printing.specs.Hex.{hex, feed}

-- 01 given, 02 none
abbrev pub given_of : Option ℕ → ℕ
given_of a = cond (is_given a) 1 2

-- a line of a statistic: state (01 finite, 00 unbounded), F bits (0 if unbounded), hits
unfoldable pub tested_line : ℕ → Statistic → ℕ → List ℕ
tested_line kind s hits = hex 2 kind ++ hex 2 (state_of s) ++ hex 16 (bits (value_of s)) ++ hex 8 hits ++ feed

-- the line of the assignment: state, right, hits
unfoldable pub assigned_line : Option ℕ → ℕ → List ℕ
assigned_line a hits = hex 2 0xb5 ++ hex 2 (given_of a) ++ hex 2 (right_of a) ++ hex 8 hits ++ feed

-- kept, groups, M; location; dispersion; warnings; the assignment
unfoldable pub verdict_lines : Judgement → List ℕ
verdict_lines v =
    (hex 2 0xb1 ++ hex 2 v.summary.n ++ hex 2 v.summary.n_groups ++ hex 8 v.ways ++ feed)
    ++ tested_line 0xb2 v.location.statistic v.location.hits
    ++ tested_line 0xb3 v.dispersion.statistic v.dispersion.hits
    ++ (hex 2 0xb4 ++ hex 2 v.summary.warnings ++ feed)
    ++ assigned_line v.assigned.statistic v.assigned.hits

-- A refusal prints only its number.
unfoldable pub refusal_line : ℕ → List ℕ
refusal_line r = hex 2 0xbf ++ hex 2 r ++ feed

unfoldable pub printed : Outcome Judgement → List ℕ
printed (answered v) = verdict_lines v
printed (refused r) = refusal_line r
