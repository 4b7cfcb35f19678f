-- `eigen_top::checks::check` meets its contract. The lines go by their numbers.
use Rattle.lists.proofs.Base.{sym, ◌∙◌, min-le_right, arith}
use Rattle.eigen_top.proofs.Lines.{line-length, line-limit, line-value, line-none}
use Rattle.eigen_top.proofs.checks.check.Goals as goal

pub misfits-requires : goal.misfits-requires
misfits-requires c = let a = c.args in omega (arith, c.requires, min-le_right a.components a.n)

pub returns-then-misfits : goal.returns-then-misfits
returns-then-misfits c = line-length _ _ _ _ _ _ _ c.requires (sym c.misfits.ensures ∙ c.if-misfits.true)

pub returns-then-beyond : goal.returns-then-beyond
returns-then-beyond c =
    line-limit _ _ _ _ _ _ _ c.requires (sym c.misfits.ensures ∙ c.if-misfits.false)
    (sym c.beyond.ensures ∙ c.if-beyond.true)

pub returns-then-has_not_finite : goal.returns-then-has_not_finite
returns-then-has_not_finite c =
    line-value _ _ _ _ _ _ _ c.requires (sym c.misfits.ensures ∙ c.if-misfits.false)
    (sym c.beyond.ensures ∙ c.if-beyond.false) (sym c.has_not_finite.ensures ∙ c.if-has_not_finite.true)

pub returns : goal.returns
returns c =
    line-none _ _ _ _ _ _ _ c.requires (sym c.misfits.ensures ∙ c.if-misfits.false)
    (sym c.beyond.ensures ∙ c.if-beyond.false) (sym c.has_not_finite.ensures ∙ c.if-has_not_finite.false)
