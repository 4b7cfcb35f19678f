-- `eigen_jacobi::check` meets its contract. The lines go by their numbers.
use Rattle.lists.proofs.Base.{sym, ◌∙◌, lt-ltb, le-ltb}
use Rattle.eigen_jacobi.proofs.Calls.{line-length, line-limit, line-value, line-none}
use Rattle.eigen_jacobi.proofs.check.Goals as goal

pub returns-then-misfits : goal.returns-then-misfits
returns-then-misfits c =
    let a = c.args in
    line-length a.n a.a.now a.out a.m a.v (sym c.misfits.ensures ∙ c.if-misfits.true)

pub returns-then-n-gt-MOST_SAMPLES : goal.returns-then-n-gt-MOST_SAMPLES
returns-then-n-gt-MOST_SAMPLES c =
    let a = c.args in
    line-limit a.n a.a.now a.out a.m a.v (sym c.misfits.ensures ∙ c.if-misfits.false) (lt-ltb _ _ c.if-n-gt-MOST_SAMPLES.true)

pub returns-then-has_not_finite : goal.returns-then-has_not_finite
returns-then-has_not_finite c =
    let a = c.args in
    line-value a.n a.a.now a.out a.m a.v
    (sym c.misfits.ensures ∙ c.if-misfits.false) (le-ltb _ _ c.if-n-gt-MOST_SAMPLES.false) (sym c.has_not_finite.ensures ∙ c.if-has_not_finite.true)

pub returns : goal.returns
returns c =
    let a = c.args in
    line-none a.n a.a.now a.out a.m a.v
    (sym c.misfits.ensures ∙ c.if-misfits.false) (le-ltb _ _ c.if-n-gt-MOST_SAMPLES.false) (sym c.has_not_finite.ensures ∙ c.if-has_not_finite.false)
