-- `ordination_coordinates::signs::stronger` meets its contract. By the test on magnitudes.
use Rattle.lists.proofs.Base.{refl, sym, ap₂, lt}
use Rattle.ordination_coordinates.specs.Signs.{stronger}
use Rattle.ordination_coordinates.proofs.BranchCases.{by-yes, by-no}
use Rattle.ordination_coordinates.proofs.signs.stronger.Goals as goal

pub returns-then-abs : goal.returns-then-abs
unfolding stronger
returns-then-abs c = by-yes c.args.x c.args.m (ap₂ lt (sym c.abs.ensures) (sym c.abs-2.ensures)) c.if-abs.true refl

pub returns-else-abs : goal.returns-else-abs
unfolding stronger
returns-else-abs c = by-no c.args.x c.args.m (ap₂ lt (sym c.abs.ensures) (sym c.abs-2.ensures)) c.if-abs.false refl
