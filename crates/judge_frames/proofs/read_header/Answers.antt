-- `judge_frames::read_header` meets its contract. The tests say whether the first frame is a header.
use Rattle.lists.proofs.Base.{arith, rules}
use Rattle.judge_frames.specs.inner.Stages.{OpenedBy}
use Rattle.judge_frames.proofs.TakenFrames.{unopened, no-line, not-a1, too_many, not-a-flag, is-header}
use Rattle.judge_frames.proofs.read_header.Goals as goal

pub returns-in_err-f : goal.returns-in_err-f
returns-in_err-f c = unopened _ c.from_residual.ensures (no-line c.line_at-l.ensures c.in_err-f.was)

pub returns-in_default : goal.returns-in_default
unfolding OpenedBy
returns-in_default c = not-a1 c.line_at-l.ensures c.in_ok-f.was c.in_default.not-Header

pub returns-then-f-gt32 : goal.returns-then-f-gt32
unfolding OpenedBy
returns-then-f-gt32 c = too_many c.line_at-l.ensures c.in_ok-f.was c.in-Header.is (omega arith)

pub returns-then-f-gt1 : goal.returns-then-f-gt1
unfolding OpenedBy
returns-then-f-gt1 c = not-a-flag c.line_at-l.ensures c.in_ok-f.was c.in-Header.is (omega arith) (omega arith)

pub returns : goal.returns
unfolding OpenedBy
returns c = is-header c.line_at-l.ensures c.in_ok-f.was c.in-Header.is _ (omega arith) (omega arith) c.from.ensures (search rules)
