-- `judge_printing::print_refusal` meets its contract. One line.
use Rattle.lists.proofs.Base.{ℕ, ap, ◌∙◌, ◌++◌}
use Rattle.judge_printing.specs.{Hex.hex, Hex.feed, Printed.refusal_line}
use Rattle.judge_printing.proofs.Writing.{wrote_as}
use Rattle.judge_printing.proofs.print_refusal.Goals as goal

pub returns : goal.returns
unfolding refusal_line
returns c = wrote_as (ap (λ (x : ℕ). hex 2 0xbf ++ hex 2 x ++ feed) (c.from-2.ensures ∙ c.from.ensures)) c.put_short.ensures
