-- `ordination_coordinates::signs::orient` meets its contract: the leaf goes by what is below zero and the meaning by a comparison with zero, and both are one.
use Rattle.lists.proofs.Base.{sym, ap, ◌∙◌, Bool, Float, cond, lt}
use Rattle.float.specs.Floats.{zero⁺, 1·0, -1·0}
use Rattle.float.proofs.Signs.{below-zero}
use Rattle.ordination_coordinates.specs.Signs.{orient}
use Rattle.ordination_coordinates.proofs.signs.orient.Goals as goal

pub returns : goal.returns
unfolding orient
returns c = c.axis_sign.ensures ∙ ap (λ (b : Bool). cond b -1·0 1·0) (sym (below-zero _)) ∙ ap (λ (x : Float). cond (lt x zero⁺) -1·0 1·0) c.largest.ensures
