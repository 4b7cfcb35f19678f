-- `dapc_discriminant::refuse` meets its contract. Both first parts are cleared.
use Rattle.lists.proofs.Base.{◌+◌, ◌*◌}
use Rattle.lists.specs.Writes.{cleared}
use Rattle.outcome.specs.Numbers.{number}
use Rattle.dapc_discriminant.proofs.Outputs.{refused-by}
use Rattle.dapc_discriminant.proofs.refuse.Goals as goal

pub returns : goal.returns
unfolding cleared
returns c =
    refused-by (number c.args.r) (c.args.axes + c.args.n * c.args.axes) c.args.n c.args.out.now c.args.assigned.now
    c.requires.0 c.requires.1 (c.fill.ensures.after (λ _ e. e)) (c.fill-2.ensures.after (λ _ e. e))
