-- `judge_frames::read_over` meets its contract. The stages one after the other.
use Rattle.lists.proofs.Base.{subst, sym}
use Rattle.judge_frames.specs.inner.Stages.{OpenedBy, ReachedBy, ReadBy}
use Rattle.judge_frames.proofs.ReadStages.{unread, no_header, few, no-samples, no_pairs, reads}
use Rattle.judge_frames.proofs.read_over.Goals as goal

pub returns-in_err-header : goal.returns-in_err-header
unfolding OpenedBy
returns-in_err-header c = unread _ _ _ _ c.from_residual.ensures (no_header _ c.in_err-header.ensures)

pub read_samples-requires : goal.read_samples-requires
unfolding OpenedBy
read_samples-requires c = (few _ c.in_ok-header.ensures, c.requires.0.labels, c.requires.0.strata)

pub returns-in_err-at : goal.returns-in_err-at
unfolding OpenedBy ReachedBy
returns-in_err-at c = unread _ _ _ _ c.from_residual-in_err-at.ensures (no-samples _ c.in_ok-header.ensures c.in_err-at.ensures)

pub read_pairs-requires : goal.read_pairs-requires
unfolding OpenedBy
read_pairs-requires c = (few _ c.in_ok-header.ensures, c.requires.0.distances, c.requires.1)

pub returns-in_err-last : goal.returns-in_err-last
unfolding OpenedBy ReachedBy
returns-in_err-last c =
    unread _ _ _ _ c.from_residual-in_err-last.ensures (no_pairs _ c.in_ok-header.ensures _ c.in_ok-at.ensures c.in_err-last.ensures)

pub returns : goal.returns
unfolding OpenedBy ReachedBy
returns c =
    subst (ReadBy c.args.text.now c.read_samples.new.labels c.read_samples.new.strata c.read_pairs.new.distances) (sym c.then_some.ensures)
    (reads _ _ _ c.in_ok-header.ensures c.in_ok-at.ensures c.in_ok-last.ensures _ c.ends_at.ensures)
