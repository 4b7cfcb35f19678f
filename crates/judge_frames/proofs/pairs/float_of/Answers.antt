-- `judge_frames::pairs::float_of` meets its contract: the test tells the patterns of NaN.
use Rattle.lists.proofs.Base.{sym, ◌∙◌}
use Rattle.float.proofs.Nan.{pattern-no-nan}
use Rattle.judge_frames.proofs.Patterns.{pattern-nan, nan_pattern}
use Rattle.judge_frames.proofs.pairs.float_of.Goals as goal

pub float_from_bits-result : goal.float_from_bits-result
float_from_bits-result c = pattern-no-nan _ c.if-b-le9218868437227405312.true

pub returns : goal.returns
returns c = nan_pattern ∙ sym (pattern-nan _ c.if-b-le9218868437227405312.false)
