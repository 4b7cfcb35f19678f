-- `ordination_coordinates::checks::bad_components` meets its contract. Test by test.
use borrow.Author.Tests.{eq-eqb, ne_eqb}
use Rattle.ordination_coordinates.specs.Lines.{bad_components}
use Rattle.ordination_coordinates.proofs.checks.bad_components.Goals as goal

pub returns-then-components-eq0 : goal.returns-then-components-eq0
unfolding bad_components
returns-then-components-eq0 c = rw (eq-eqb _ _ c.if-components-eq0.true)

pub returns-else-components-eq0 : goal.returns-else-components-eq0
unfolding bad_components
returns-else-components-eq0 c = rw (ne_eqb _ _ c.if-components-eq0.false)
