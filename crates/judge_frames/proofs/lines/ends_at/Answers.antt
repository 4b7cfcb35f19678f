-- `judge_frames::lines::ends_at` meets its contract.
use Rattle.lists.proofs.Base.{sym, ◌∙◌, true≢false}
use Rattle.judge_frames.proofs.EndFrames.{no-line, the_end, not-the-end}
use Rattle.judge_frames.proofs.lines.ends_at.Goals as goal
use Rattle.judge_frames.proofs.lines.ends_at.Goals.{in-End, in_default-matches}

pub returns-in_default : goal.returns-in_default
returns-in_default c = no-line c.line_at-l.ensures c.in_default.is

pub returns-then-matches : goal.returns-then-matches
returns-then-matches c = elim c.match-matches.branch [
  | in-End w ↦ the_end c.line_at-l.ensures c.in-Some.is w.in-End.is
  | in_default-matches w ↦ absurd (true≢false (sym c.if-matches.true ∙ w.matches-is))
]

pub returns-else-matches : goal.returns-else-matches
returns-else-matches c = elim c.match-matches.branch [
  | in-End w ↦ absurd (true≢false (sym w.matches-is ∙ c.if-matches.false))
  | in_default-matches w ↦ w.matches-is ∙ not-the-end c.line_at-l.ensures c.in-Some.is w.in_default-matches.not-End
]
