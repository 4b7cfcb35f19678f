-- `judge::judge_front` meets its contract. Strata that are not given are not read.
use Rattle.lists.proofs.Base.{◌∙◌}
use Rattle.judge.proofs.JudgedLots.{judging-front, judgement-front}
use Rattle.judge.proofs.judge_front.Goals as goal

pub judge_lot-requires : goal.judge_lot-requires
judge_lot-requires c = judging-front _ _ _ _ _ c.then_some-strata.ensures c.requires.1

pub returns : goal.returns
returns c = c.judge_lot.ensures ∙ judgement-front _ _ _ _ _ c.then_some-strata.ensures
