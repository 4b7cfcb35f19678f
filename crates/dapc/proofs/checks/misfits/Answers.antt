-- `dapc::checks::misfits` meets its contract. Where n * columns does not fit, it is above every length; then test by test.
use Rattle.lists.proofs.Base.{◌≡◌, ◌∙◌, ◌*◌, true, arith, eqb, eq-eqb, ne_eqb, lt-ltb}
use Rattle.dapc.proofs.Lines.{misfit-product, misfit-labels, misfit-out, misfit-assigned}
use Rattle.dapc.proofs.checks.misfits.Goals as goal
use Rattle.dapc.proofs.checks.misfits.Goals.{Else-x-k}

fits : (c : Else-x-k) → let a = c.args in eqb a.x (a.n * a.columns) ≡ true
fits c = let a = c.args in eq-eqb a.x (a.n * a.columns) (c.if-x-k.false ∙ c.in-Some.ensures.1)

pub returns-in_default : goal.returns-in_default
returns-in_default c = let a = c.args in misfit-product _ _ _ _ _ _ (ne_eqb a.x (a.n * a.columns) (λ e. omega (arith, c.in_default.ensures)))

pub returns-then-x-k : goal.returns-then-x-k
returns-then-x-k c = let a = c.args in misfit-product _ _ _ _ _ _ (ne_eqb a.x (a.n * a.columns) (λ e. omega (arith, c.in-Some.ensures.1, c.if-x-k.true)))

pub returns-then-labels-n : goal.returns-then-labels-n
returns-then-labels-n c = misfit-labels _ _ _ _ _ _ (fits (goal.at.returns-then-labels-n c).Else-x-k) c.if-labels-n.true

pub returns-then-out-columns : goal.returns-then-out-columns
returns-then-out-columns c = misfit-out _ _ _ _ _ _ (fits (goal.at.returns-then-out-columns c).Else-x-k) c.if-labels-n.false (omega arith)

pub returns-then-out-columns-2 : goal.returns-then-out-columns-2
returns-then-out-columns-2 c = lt-ltb _ _ c.if-out-columns-2.true ∙ misfit-out _ _ _ _ _ _ (fits (goal.at.returns-then-out-columns-2 c).Else-x-k) c.if-labels-n.false (omega arith)

pub returns-else-out-columns-2 : goal.returns-else-out-columns-2
returns-else-out-columns-2 c = misfit-assigned _ _ _ _ _ _ (fits (goal.at.returns-else-out-columns-2 c).Else-x-k) c.if-labels-n.false (omega arith)
