-- `judge_frames::read_with` meets its contract. Over cleared slices, and cleared again on a refusal.
use Rattle.judge_frames.specs.inner.Stages.{ReadBy}
use Rattle.judge_frames.proofs.ReadStages.{called-read, called-refused, room-kept}
use Rattle.judge_frames.proofs.read_with.Goals as goal

pub clear_all-requires : goal.clear_all-requires
clear_all-requires c = c.requires.0

pub read_over-requires : goal.read_over-requires
read_over-requires c = (c.clear_all.ensures, c.requires.1)

pub clear_all-requires-in_default : goal.clear_all-requires-in_default
clear_all-requires-in_default c = room-kept c.clear_all.ensures c.read_over.auto.labels c.read_over.auto.strata c.read_over.auto.distances

pub returns-in_default : goal.returns-in_default
unfolding ReadBy
returns-in_default c = called-refused _ c.in_default.ensures c.clear_all-in_default.ensures

pub returns : goal.returns
unfolding ReadBy
returns c = called-read _ c.in-Some.ensures
