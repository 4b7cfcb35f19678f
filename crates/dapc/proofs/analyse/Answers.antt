-- `dapc::analyse` meets its contract. By whether line 5 or 9 holds of the design.
use Rattle.lists.proofs.Base.{ap, ◌∙◌}
use Rattle.outcome.proofs.Table.{told-passed, told-refused, passed-on}
use Rattle.std.specs.Prelude.{Result}
use Rattle.outcome.specs.declared.Refusal.{Refusal}
use Rattle.dapc_discriminant.specs.declared.Separation.{Separation}
use Rattle.dapc_discriminant.specs.Outputs.{called}
use Rattle.dapc.proofs.Calls.{scorable, groups-scored, groups-refused-by}
use Rattle.dapc.proofs.analyse.Goals as goal

pub assess-requires : goal.assess-requires
assess-requires c =
    scorable c.args.columns c.args.x.now c.args.labels.now c.design_of-d.ensures c.requires
    (told-passed c.check_groups.ensures c.in_ok-check_groups.was)

pub returns-in_err-check_groups : goal.returns-in_err-check_groups
returns-in_err-check_groups c =
    let a = c.args in
    ap (λ (r : Result Separation Refusal). called r a.out.now a.assigned.now) (passed-on _ c.from_residual.ensures.1)
    ∙ groups-refused-by a.columns a.x.now a.labels.now c.design_of-d.ensures a.out.now a.assigned.now (told-refused c.check_groups.ensures c.in_err-check_groups.was)

pub returns : goal.returns
returns c =
    groups-scored c.args.columns c.args.x.now c.args.labels.now c.design_of-d.ensures c.args.out.now c.args.assigned.now c.requires.few
    (told-passed c.check_groups.ensures c.in_ok-check_groups.was) c.assess.ensures
