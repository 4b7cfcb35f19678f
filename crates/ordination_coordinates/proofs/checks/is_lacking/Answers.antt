-- `ordination_coordinates::checks::is_lacking` meets its contract. Test by test.
use Rattle.lists.proofs.Base.{sym, ◌∙◌}
use Rattle.ordination_coordinates.proofs.HashPcaLengths.{lacking-first, lacking-words, words-test}
use Rattle.ordination_coordinates.proofs.checks.is_lacking.Goals as goal

pub returns-then-too_short : goal.returns-then-too_short
returns-then-too_short c = c.if-too_short.true ∙ lacking-first _ _ _ _ _ _ _ _ (sym c.too_short.ensures ∙ c.if-too_short.true)

pub returns-else-too_short : goal.returns-else-too_short
returns-else-too_short c = lacking-words _ _ _ _ _ _ _ _ (sym c.too_short.ensures ∙ c.if-too_short.false) (words-test c.args.words c.args.n)
