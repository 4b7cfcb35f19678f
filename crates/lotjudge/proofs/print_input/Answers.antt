-- `lotjudge::print_input` meets its contract: what is found of the text, or 12 where the reading failed.
use Rattle.std.proofs.Common.{ℕ, sym, ap, ◌∙◌}
use Rattle.std.specs.Prelude.{Result}
use Rattle.std.specs.declared.io.Error.{Error}
use Rattle.judge_printing.specs.Page.{onto}
use Rattle.judge.specs.Judge.{judge_input}
use Rattle.lotjudge.specs.Reading.{printed_of}
use Rattle.lotjudge.proofs.print_input.Goals as goal

pub returns-in-Ok : goal.returns-in-Ok
unfolding judge_input
returns-in-Ok c = c.judge.ensures ∙ ap (λ (r : Result ℕ Error). onto (printed_of r c.args.buffer.now) c.args.out.now) (sym c.in-Ok.is)

pub returns-in-Err : goal.returns-in-Err
unfolding judge_input
returns-in-Err c = c.print.ensures ∙ ap (λ (r : Result ℕ Error). onto (printed_of r c.args.buffer.now) c.args.out.now) (sym c.in-Err.is)
