-- `judge_printing::put_assigned` meets its contract. The values of its case.
use Rattle.lists.proofs.Base.{sym, ap}
use Rattle.exhaustive_hits.specs.WayHits.{is_given}
use Rattle.judge_printing.specs.Printed.{assigned_line}
use Rattle.judge_printing.proofs.Writing.{wrote_as}
use Rattle.judge_printing.proofs.put_assigned.Goals as goal

pub returns-in-Some : goal.returns-in-Some
unfolding assigned_line is_given
returns-in-Some c = wrote_as (ap (λ a. assigned_line a c.args.t.hits) (sym c.in-Some.is)) c.put_line.ensures

pub returns-in-None : goal.returns-in-None
unfolding assigned_line is_given
returns-in-None c = wrote_as (ap (λ a. assigned_line a c.args.t.hits) (sym c.in-None.is)) c.put_line-in-None.ensures
