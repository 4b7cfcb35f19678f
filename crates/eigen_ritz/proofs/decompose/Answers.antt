-- `eigen_ritz::decompose` meets its contract. The small matrix is filled, made even and taken apart.
use Rattle.lists.proofs.Base.{ap, ◌∙◌}
use Rattle.eigen_jacobi.specs.Eigen.{jacobi}
use Rattle.eigen_jacobi.proofs.Calls.{solved-found}
use Rattle.eigen_matrix.specs.Symmetric.{symmetrised}
use Rattle.eigen_ritz.proofs.decompose.Goals as goal

pub returns : goal.returns
returns c =
    let a = c.args in
    solved-found a.b _ a.pairs.now c.eigen_within.result c.eigen_within.ensures
    ∙ ap (jacobi a.b) (c.symmetrise.ensures ∙ ap (symmetrised a.b) c.fill_projected.ensures)
