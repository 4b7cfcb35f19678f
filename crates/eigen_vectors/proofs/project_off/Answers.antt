-- `eigen_vectors::project_off` meets its contract. The part along y is its multiple by the inner product.
use Rattle.lists.proofs.Base.{ap, ◌∙◌, Float}
use Rattle.eigen_vectors.specs.Vectors.{less_times, projected_off}
use Rattle.eigen_vectors.proofs.project_off.Goals as goal

pub returns : goal.returns
unfolding projected_off
returns c =
    let a = c.args in
    c.less_times.ensures ∙ ap (λ (d : Float). less_times d (a.x.now) (a.y.now)) c.dot-d.ensures
