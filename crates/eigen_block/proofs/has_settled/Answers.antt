-- `eigen_block::has_settled` meets its contract. One comparison.
use Rattle.lists.proofs.Base.{ap, ap₂, ◌∙◌}
use lib.Ieee.{Float, le}
use Rattle.float.specs.{Floats.◌⊗◌, Floats.1e-10, Floats.1e-12, Order.larger}
use Rattle.eigen_block.specs.Rounds.{converged_at}
use Rattle.eigen_block.proofs.has_settled.Goals as goal

pub returns : goal.returns
unfolding converged_at
returns c = ap₂ (λ (d m : Float). le d (1e-10 ⊗ m)) c.abs.ensures (c.max.ensures ∙ ap (λ (m : Float). larger m 1e-12) c.abs-2.ensures)
