-- `judge_printing::pattern_of` meets its contract. NaN has one pattern, any other f64 its own.
use Rattle.lists.proofs.Base.{sym, ◌∙◌}
use Rattle.float.proofs.Nan.{nan-ne}
use Rattle.judge_printing.proofs.Patterns.{pattern-of-nan}
use Rattle.judge_printing.proofs.pattern_of.Goals as goal

pub returns-then-is_nan : goal.returns-then-is_nan
returns-then-is_nan c = pattern-of-nan _ (nan-ne _ ∙ sym c.is_nan.ensures.value ∙ c.if-is_nan.true)
