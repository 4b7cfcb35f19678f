-- `dapc::checks::check` meets its contract. The lines go by their numbers.
use Rattle.lists.proofs.Base.{sym, ◌∙◌, lt-ltb, le-ltb}
use Rattle.dapc.proofs.Lines.{line-length, line-samples, line-columns, line-value, line-none}
use Rattle.dapc.proofs.checks.check.Goals as goal

pub returns-then-misfits : goal.returns-then-misfits
returns-then-misfits c = line-length _ _ _ _ _ _ (sym c.misfits.ensures ∙ c.if-misfits.true)

pub returns-then-n-gt-MOST_SAMPLES : goal.returns-then-n-gt-MOST_SAMPLES
returns-then-n-gt-MOST_SAMPLES c = line-samples _ _ _ _ _ _ (sym c.misfits.ensures ∙ c.if-misfits.false) (lt-ltb _ _ c.if-n-gt-MOST_SAMPLES.true)

pub returns-then-columns-gt-MOST_COLUMNS : goal.returns-then-columns-gt-MOST_COLUMNS
returns-then-columns-gt-MOST_COLUMNS c =
    line-columns _ _ _ _ _ _ (sym c.misfits.ensures ∙ c.if-misfits.false)
    (le-ltb _ _ c.if-n-gt-MOST_SAMPLES.false) (lt-ltb _ _ c.if-columns-gt-MOST_COLUMNS.true)

pub returns-then-beyond : goal.returns-then-beyond
returns-then-beyond c =
    line-value _ _ _ _ _ _ (sym c.misfits.ensures ∙ c.if-misfits.false) (le-ltb _ _ c.if-n-gt-MOST_SAMPLES.false) (le-ltb _ _ c.if-columns-gt-MOST_COLUMNS.false)
    (sym c.beyond.ensures ∙ c.if-beyond.true)

pub returns : goal.returns
returns c =
    line-none _ _ _ _ _ _ (sym c.misfits.ensures ∙ c.if-misfits.false) (le-ltb _ _ c.if-n-gt-MOST_SAMPLES.false) (le-ltb _ _ c.if-columns-gt-MOST_COLUMNS.false)
    (sym c.beyond.ensures ∙ c.if-beyond.false)
