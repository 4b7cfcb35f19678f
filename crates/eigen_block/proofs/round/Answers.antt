-- `eigen_block::round` meets its contract. A step, and its Ritz values by the product held.
use Rattle.lists.proofs.Base.{ap, ◌∙◌, ◌*◌, ◌≤◌, mul-le-mul_right, arith, length}
use Rattle.eigen_block.specs.Rounds.{ritz}
use Rattle.eigen_block.proofs.round.Goals as goal

pub update_ritz_values-requires : goal.update_ritz_values-requires
update_ritz_values-requires c =
    let room : length (c.args.before.now) * c.args.a.n ≤ c.args.b * c.args.a.n = mul-le-mul_right c.args.a.n c.requires.2 in (
      omega (arith, room, c.block_step.auto.q, c.requires.0),
      omega (arith, room, c.block_step.auto.aq, c.requires.1),
    )

pub returns : goal.returns
returns c =
    let a = c.args in
    let stepped = c.block_step.ensures in
    let found = c.update_ritz_values.ensures in
    (stepped.0, stepped.1, found.0 ∙ ap (ritz a.a.n (length (a.before.now)) c.block_step.new.q) stepped.1, found.1)
