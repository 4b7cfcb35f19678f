-- `eigen_jacobi::misfits` meets its contract. Where n * n does not fit, it is above every length.
use Rattle.lists.proofs.Base.{◌≡◌, sym, ◌∙◌, ◌*◌, arith, eq-eqb, ne_eqb, length}
use Rattle.eigen_jacobi.specs.Call.{misfits}
use Rattle.eigen_jacobi.proofs.misfits.Goals as goal

pub returns-in_default : goal.returns-in_default
unfolding misfits
returns-in_default c = let n = c.args.n in rw (ne_eqb (length c.args.a.now) (n * n) (λ e. omega (arith, c.in_default.ensures)))

pub returns-then-a-k : goal.returns-then-a-k
unfolding misfits
returns-then-a-k c =
    let n = c.args.n in
    let k : c.in-Some.k ≡ n * n = c.in-Some.ensures.1 in
    rw (ne_eqb (length c.args.a.now) c.in-Some.k c.if-a-k.true, ne_eqb (length c.args.a.now) (n * n) (λ e. c.if-a-k.true (e ∙ sym k)))

pub returns-else-a-k : goal.returns-else-a-k
unfolding misfits
returns-else-a-k c =
    let n = c.args.n in
    let k : c.in-Some.k ≡ n * n = c.in-Some.ensures.1 in
    rw (eq-eqb (length c.args.a.now) (n * n) (c.if-a-k.false ∙ k)) (rw k at c.is_short.ensures)
