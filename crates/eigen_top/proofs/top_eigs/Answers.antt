-- `eigen_top::top_eigs` meets its contract. By whether a line of the table holds.
use Rattle.lists.proofs.Base.{ap, ◌∙◌, min-le_right, length}
use Rattle.outcome.proofs.Table.{told-passed, told-refused, passed-on}
use Rattle.eigen_top.specs.Call.{called}
use Rattle.eigen_top.proofs.{Lines.passed-fits, Calls.call-refused, Calls.call-passed}
use Rattle.eigen_top.proofs.top_eigs.Goals as goal

pub solve-requires : goal.solve-requires
solve-requires c =
    let a = c.args in
    let passed = told-passed c.check.ensures c.in_ok-check.was in
    let fits = passed-fits a.components a.n a.a.now (length a.out.now) (length a.eigenpairs.now) (length a.rotated.now) (length a.vectors.now) passed in
    let k-is = c.components_used-k.ensures in record {
      n_in_bounds = (rw k-is fits.out-fits, fits.w_fits, fits.m-fits, fits.v-fits);
      a_len = (fits.a-fits, fits.n-fits, rw k-is (min-le_right _ _), rw k-is fits.k-fits);
    }

pub returns-in_err-check : goal.returns-in_err-check
returns-in_err-check c =
    let a = c.args in
    ap (λ r. called r a.out.now a.eigenpairs.now a.rotated.now a.vectors.now) (passed-on _ c.from_residual.ensures.1)
    ∙ call-refused _ _ _ _ _ _ _ (told-refused c.check.ensures c.in_err-check.was)

pub returns : goal.returns
returns c = call-passed _ _ _ _ _ _ _ (told-passed c.check.ensures c.in_ok-check.was) c.components_used-k.ensures c.solve.ensures
