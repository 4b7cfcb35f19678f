-- `eigen_vectors::put_unit` meets its contract. Divided by its length, at least 1e-300.
use Rattle.lists.proofs.Base.{ap, ◌∙◌, Float}
use Rattle.float.specs.{Floats.1e-300, Order.larger}
use Rattle.eigen_vectors.specs.Vectors.{divided, unit}
use Rattle.eigen_vectors.proofs.put_unit.Goals as goal

pub returns : goal.returns
unfolding unit
returns c =
    let y = c.args.y.now in
    c.put_divided.ensures ∙ ap (λ (d : Float). divided d y) (c.max-d.ensures ∙ ap (λ (l : Float). larger l 1e-300) c.norm.ensures)
