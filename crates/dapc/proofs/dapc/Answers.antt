-- `dapc::dapc` meets its contract. By whether a line of the table holds.
use Rattle.lists.proofs.Base.{◌≡◌, ap, ◌∙◌, length}
use Rattle.outcome.specs.{Outcome.passed, Refusals.first}
use Rattle.outcome.proofs.Table.{told-passed, told-refused, passed-on}
use Rattle.std.specs.Prelude.{Result}
use Rattle.outcome.specs.declared.Refusal.{Refusal}
use Rattle.dapc_discriminant.specs.declared.Separation.{Separation}
use Rattle.dapc_discriminant.specs.Outputs.{called}
use Rattle.dapc.specs.DapcLines.{shape_lines}
use Rattle.dapc.proofs.Calls.{call-refused, call-sized, call-passed}
use Rattle.dapc.proofs.dapc.Goals as goal
use Rattle.dapc.proofs.dapc.Goals.{In_ok-check}

clear : (c : In_ok-check) → let a = c.args in passed ≡ first (shape_lines a.n a.columns a.x.now (length a.labels.now) (length a.out.now) (length a.assigned.now))
clear c = told-passed c.check.ensures c.in_ok-check.was

pub analyse-requires : goal.analyse-requires
analyse-requires c =
    let a = c.args in call-sized a.n a.columns a.x.now a.labels.now a.out.now a.assigned.now (clear (goal.at.analyse-requires c).In_ok-check)

pub returns-in_err-check : goal.returns-in_err-check
returns-in_err-check c =
    let a = c.args in
    ap (λ (r : Result Separation Refusal). called r a.out.now a.assigned.now) (passed-on _ c.from_residual.ensures.1)
    ∙ call-refused a.n a.columns a.x.now a.labels.now a.out.now a.assigned.now (told-refused c.check.ensures c.in_err-check.was)

pub returns : goal.returns
returns c =
    let a = c.args in
    call-passed a.n a.columns a.x.now a.labels.now a.out.now a.assigned.now (clear (goal.at.returns c).In_ok-check) c.analyse.ensures
