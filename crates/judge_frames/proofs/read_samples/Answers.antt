-- `judge_frames::read_samples` meets its contract. At each turn one frame more is taken.
use Rattle.lists.proofs.Base.{arith}
use Rattle.judge_frames.specs.inner.Stages.{ReachedBy}
use Rattle.judge_frames.proofs.TakenFrames.{taking-none, taking-all, taking-other, taking-next, unreached, no-frame, not-a2, out_of_order, is-sample, sampled-none, sampled-next}
use Rattle.judge_frames.proofs.read_samples.Goals as goal

pub loop-k-init : goal.loop-k-init
loop-k-init c = taking-none _ _ _ _ _ (sampled-none c.requires.1 c.requires.2)

pub returns-in_err-f : goal.returns-in_err-f
returns-in_err-f c =
    unreached _ _ c.from_residual.ensures (taking-other _ _ _ _ c.loop-k.invariant c.line_at-l.ensures c.loop-k-test.true (no-frame _ c.in_err-f.was))

pub returns-in_default : goal.returns-in_default
unfolding ReachedBy
returns-in_default c = taking-other _ _ _ _ c.loop-k.invariant c.line_at-l.ensures c.loop-k-test.true (not-a2 _ c.in_ok-f.was c.in_default.not-Sample)

pub returns-then-from-k : goal.returns-then-from-k
unfolding ReachedBy
returns-then-from-k c =
    taking-other _ _ _ _ c.loop-k.invariant c.line_at-l.ensures c.loop-k-test.true
    (out_of_order _ c.in_ok-f.was c.in-Sample.is c.loop-k.invariant.many (λ same. omega (arith, c.from.ensures, c.if-from-k.true, same)))

pub loop-k-preserved : goal.loop-k-preserved
loop-k-preserved c =
    let turn = c.loop-k in
    taking-next _ _ _ _ turn.invariant c.line_at-l.ensures c.loop-k-test.true _
    (is-sample _ c.in_ok-f.was c.in-Sample.is turn.invariant.many (omega (arith, c.from.ensures, c.if-from-k.false)))
    (sampled-next _ _ turn.invariant.many (omega (arith, c.requires.0)) turn.invariant.holds)

pub returns : goal.returns
unfolding ReachedBy
returns c = taking-all _ _ _ _ c.loop-k.invariant c.loop-k-test.false
