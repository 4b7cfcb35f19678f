-- `judge::judge_text` meets its contract. By cases of what was read.
use Rattle.lists.proofs.Base.{ap, ◌∙◌}
use Rattle.outcome.specs.Numbers.{outcome_of}
use Rattle.outcome.proofs.Table.{passed-on}
use Rattle.judge.proofs.JudgedTexts.{fits-front, of-lot, of-refusal}
use Rattle.judge.proofs.judge_text.Goals as goal

pub judge_front-requires : goal.judge_front-requires
judge_front-requires c = (
  record {
    labels = c.read_into.auto.labels ∙ c.requires.labels;
    strata = c.read_into.auto.strata ∙ c.requires.strata;
    distances = c.read_into.auto.distances ∙ c.requires.distances;
  },
  fits-front c.args.text.now c.read_into.result c.read_into.ensures c.in_ok-header.was,
)

pub returns-in_err-header : goal.returns-in_err-header
returns-in_err-header c =
    ap outcome_of (passed-on _ c.from_residual.ensures.1) ∙ of-refusal c.args.text.now c.read_into.result c.read_into.ensures c.in_err-header.was

pub returns : goal.returns
returns c = of-lot c.args.text.now c.read_into.result c.read_into.ensures c.in_ok-header.was c.judge_front.ensures
