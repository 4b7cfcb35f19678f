-- `lot_checks::check_sizes` meets its contract. Test by test.
use borrow.Author.Tests.{lt-ltb, le-ltb}
use Rattle.outcome.specs.Refusals.{first}
use Rattle.lot_checks.proofs.check_sizes.Goals as goal

pub returns-then-misfit : goal.returns-then-misfit
unfolding first
returns-then-misfit c = rw c.if-misfit.true

pub returns-then-n-gt-MOST_SAMPLES : goal.returns-then-n-gt-MOST_SAMPLES
unfolding first
returns-then-n-gt-MOST_SAMPLES c = rw (c.if-misfit.false, lt-ltb _ _ c.if-n-gt-MOST_SAMPLES.true)

pub returns-then-beyond : goal.returns-then-beyond
unfolding first
returns-then-beyond c = rw (c.if-misfit.false, le-ltb _ _ c.if-n-gt-MOST_SAMPLES.false, c.if-beyond.true)

pub returns : goal.returns
unfolding first
returns c = rw (c.if-misfit.false, le-ltb _ _ c.if-n-gt-MOST_SAMPLES.false, c.if-beyond.false)
