-- `judge_frames::read_pairs` meets its contract. At each turn one pair more is taken, and the marks tell those that were.
use Rattle.judge_frames.specs.inner.Stages.{ReachedBy}
use Rattle.judge_frames.proofs.TakenFrames.{taking-none, taking-all, taking-other, taking-next, took-as, unreached}
use Rattle.judge_frames.proofs.Pairing.{marked-none, marked_all, no-frame, not-a3, put_other, is-put, put_next}
use Rattle.judge_frames.proofs.read_pairs.Goals as goal

pub loop-k-init : goal.loop-k-init
loop-k-init c = let h = c.requires in taking-none _ _ _ _ _ (marked-none _ h.0 h.1 h.2)

pub returns-in_err-f : goal.returns-in_err-f
returns-in_err-f c =
    unreached _ _ c.from_residual.ensures (taking-other _ _ _ _ c.loop-k.invariant c.line_at-l.ensures c.loop-k-test.true (no-frame _ _ c.in_err-f.was))

pub returns-in_default : goal.returns-in_default
unfolding ReachedBy
returns-in_default c = taking-other _ _ _ _ c.loop-k.invariant c.line_at-l.ensures c.loop-k-test.true (not-a3 _ _ c.in_ok-f.was c.in_default.not-Pair)

pub returns-then-not-put_pair : goal.returns-then-not-put_pair
unfolding ReachedBy
returns-then-not-put_pair c =
    taking-other _ _ _ _ c.loop-k.invariant c.line_at-l.ensures c.loop-k-test.true
    (put_other _ c.loop-k.invariant.holds c.put_pair.ensures c.in_ok-f.was c.in-Pair.is c.if-not-put_pair.true)

pub loop-k-preserved : goal.loop-k-preserved
loop-k-preserved c =
    taking-next _ _ _ _ c.loop-k.invariant c.line_at-l.ensures c.loop-k-test.true _
    (is-put _ c.loop-k.invariant.holds c.put_pair.ensures c.in_ok-f.was c.in-Pair.is c.if-not-put_pair.false)
    (put_next _ c.loop-k.invariant.holds c.put_pair.ensures c.requires.0 c.if-not-put_pair.false)

pub returns : goal.returns
unfolding ReachedBy
returns c = took-as (marked_all _ _ _ c.requires.0) (taking-all _ _ _ _ c.loop-k.invariant c.loop-k-test.false)
