-- `lot_checks::unmirrored` meets its contract. No row passed has an entry that differs from its mirror.
use Rattle.lists.proofs.Base.{sym, ◌∙◌}
use Rattle.lists.proofs.Filters.{range-any-here, range-any-later, range-any-none}
use Rattle.lot.proofs.Mirrored.{rows-unmirrored}
use Rattle.lot_checks.proofs.unmirrored.Goals as goal

pub loop-i-init : goal.loop-i-init
loop-i-init c = rows-unmirrored _ _

pub returns-then-row_unmirrored : goal.returns-then-row_unmirrored
returns-then-row_unmirrored c = sym (range-any-here _ _ _ c.loop-i-test.true (sym c.row_unmirrored.ensures ∙ c.if-row_unmirrored.true)) ∙ c.loop-i.invariant

pub loop-i-preserved : goal.loop-i-preserved
loop-i-preserved c = sym (range-any-later _ _ _ c.loop-i-test.true (sym c.row_unmirrored.ensures ∙ c.if-row_unmirrored.false)) ∙ c.loop-i.invariant

pub returns : goal.returns
returns c = sym (range-any-none _ _ _ c.loop-i-test.false) ∙ c.loop-i.invariant
