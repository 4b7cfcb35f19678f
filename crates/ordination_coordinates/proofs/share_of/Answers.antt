-- `ordination_coordinates::share_of` meets its contract. By the sign of the total.
use Rattle.lists.proofs.Base.{refl, ap, Float}
use Rattle.float.specs.{Floats.◌⊘◌, Floats.zero⁺, Order.larger}
use Rattle.ordination_coordinates.specs.Finish.{share_of}
use Rattle.ordination_coordinates.proofs.BranchCases.{by-yes, by-no}
use Rattle.ordination_coordinates.proofs.share_of.Goals as goal

pub returns-then-total : goal.returns-then-total
unfolding share_of
returns-then-total c =
    let a = c.args in
    by-yes (larger a.v zero⁺ ⊘ a.total) zero⁺ refl c.if-total.true (ap (λ (x : Float). x ⊘ a.total) c.max.ensures)

pub returns-else-total : goal.returns-else-total
unfolding share_of
returns-else-total c = by-no (larger c.args.v zero⁺ ⊘ c.args.total) zero⁺ refl c.if-total.false refl
