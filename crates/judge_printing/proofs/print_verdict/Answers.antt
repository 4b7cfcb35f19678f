-- `judge_printing::print_verdict` meets its contract. Five lines.
use Rattle.judge_printing.specs.Printed.{verdict_lines}
use Rattle.judge_printing.proofs.Writing.{wrote_then}
use Rattle.judge_printing.proofs.print_verdict.Goals as goal

pub returns : goal.returns
unfolding verdict_lines
returns c =
    wrote_then (wrote_then
    (wrote_then (wrote_then c.put_line-p.ensures c.put_tested-q.ensures) c.put_tested-r.ensures)
    c.put_short-s.ensures) c.put_assigned.ensures
