-- `ordination_coordinates::gower::centre_row` meets its contract. Each entry is centred in its place.
use Rattle.lists.proofs.Base.{get_or, nan, rules}
use Rattle.ordination_coordinates.specs.Centred.{centring}
use Rattle.ordination_coordinates.proofs.gower.centre_row.Goals as goal

pub returns : goal.returns
unfolding centring
returns c = c.rewrite.ensures (λ j x. centring x c.args.a (get_or c.args.m.now j nan) c.args.all) (λ j x s h k. search rules)
