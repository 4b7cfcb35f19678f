-- Section 7: the text that is printed for a text, or for an input that could not be read. Definitions only.
use Rattle.std.specs.Prelude.{ℕ, Bool, true, false, List}
use Rattle.outcome.specs.Outcome.{refused, and_then}
use Rattle.judge_frames.specs.Frames.{read_lot}
use Rattle.judge_printing.specs.Printed.{printed}
use Rattle.judge.specs.Judged.{judgement}

-- 12 precedes all; then the judgement of the lot, a verdict or a refusal
unfoldable pub judge_text : List ℕ → List ℕ
judge_text text = printed (and_then (read_lot text) judgement)

-- 12 for an input whose reading failed, whatever was read of it
unfoldable pub judge_input : Bool → List ℕ → List ℕ
judge_input true text = printed (refused 12)
judge_input false text = judge_text text
