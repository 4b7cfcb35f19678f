-- `judge_printing::put_tested` meets its contract. The values of its case.
use Rattle.lists.proofs.Base.{ℕ, ap, ap₂, ◌∙◌, ◌++◌}
use Rattle.float.specs.Floats.{bits}
use Rattle.judge_printing.specs.{Hex.hex, Hex.feed, Printed.tested_line}
use Rattle.judge_printing.proofs.Writing.{wrote_as}
use Rattle.judge_printing.proofs.put_tested.Goals as goal

pub returns : goal.returns
unfolding tested_line
returns c =
    wrote_as (ap₂ (λ (x y : ℕ). hex 2 c.args.kind ++ hex 2 x ++ hex 16 y ++ hex 8 c.args.t.hits ++ feed) c.state_of-state.ensures
    (c.pattern_of.ensures ∙ ap bits c.value_of-f.ensures)) c.put_line.ensures
