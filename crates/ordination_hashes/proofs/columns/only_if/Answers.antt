-- `ordination_hashes::columns::only_if` meets its contract, by cases.
use Rattle.std.proofs.Common.{sym, refl, ◌∙◌}
use Rattle.lists.proofs.Truths.{never}
use Rattle.ordination_hashes.proofs.columns.only_if.Goals as goal

pub returns-then-b : goal.returns-then-b
returns-then-b c = (λ e. refl, λ e. never (sym c.if-b.true ∙ e))

pub returns-else-b : goal.returns-else-b
returns-else-b c = (λ e. never (sym e ∙ c.if-b.false), λ e. refl)
