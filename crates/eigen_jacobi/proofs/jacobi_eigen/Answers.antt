-- `eigen_jacobi::jacobi_eigen` meets its contract. By whether a line of the table holds.
use Rattle.lists.proofs.Base.{ap, ◌∙◌, length}
use Rattle.outcome.proofs.Table.{told-passed, told-refused, passed-on}
use Rattle.eigen_jacobi.specs.Call.{called}
use Rattle.eigen_jacobi.proofs.Calls.{call-refused, call-passed, passed-fits}
use Rattle.eigen_jacobi.proofs.jacobi_eigen.Goals as goal

pub solve-requires : goal.solve-requires
solve-requires c =
    let a = c.args in
    let fits = passed-fits a.n a.a.now (length a.out.now) (length a.rotated.now) (length a.vectors.now) (told-passed c.check.ensures c.in_ok-check.was) in
    (fits.a-fits, fits.out-fits, fits.m-fits, fits.v-fits, fits.n-fits)

pub returns-in_err-check : goal.returns-in_err-check
returns-in_err-check c =
    let a = c.args in
    ap (λ r. called r a.out.now a.rotated.now a.vectors.now) (passed-on _ c.from_residual.ensures.1)
    ∙ call-refused a.n a.a.now a.out.now a.rotated.now a.vectors.now (told-refused c.check.ensures c.in_err-check.was)

pub returns : goal.returns
returns c =
    let a = c.args in
    call-passed a.n a.a.now a.out.now a.rotated.now a.vectors.now (told-passed c.check.ensures c.in_ok-check.was) c.solve.ensures
