-- `judge_printing::print_into` meets its contract. By cases.
use Rattle.lists.proofs.Base.{arith}
use Rattle.judge_printing.proofs.Printing.{printed-judged, printed-refused}
use Rattle.judge_printing.proofs.print_into.Goals as goal

pub returns-in-Ok : goal.returns-in-Ok
returns-in-Ok c = printed-judged _ c.in-Ok.is c.requires c.print_verdict.ensures

pub returns-in-Err : goal.returns-in-Err
returns-in-Err c = printed-refused _ c.in-Err.is (omega arith) c.print_refusal.ensures
