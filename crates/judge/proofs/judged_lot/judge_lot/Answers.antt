-- `judge::judged_lot::judge_lot` meets its contract. The slices are long enough, so what is answered is the judgement.
use Rattle.lot.specs.Given.{lot_given}
use Rattle.judge.proofs.JudgedLots.{judged-by}
use Rattle.judge.proofs.judged_lot.judge_lot.Goals as goal

pub returns : goal.returns
returns c = judged-by (lot_given c.args.lot) c.exhaustive.result c.requires c.exhaustive.ensures
