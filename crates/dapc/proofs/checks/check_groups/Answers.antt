-- `dapc::checks::check_groups` meets its contract. The lines go by their numbers.
use Rattle.lists.proofs.Base.{sym, ap, ◌∙◌, ℕ, lt-ltb, le-ltb, ltb}
use Rattle.dapc.proofs.Lines.{line-labels, line-leading, line-passed}
use Rattle.dapc.proofs.checks.check_groups.Goals as goal

pub returns-then-g-lt2 : goal.returns-then-g-lt2
returns-then-g-lt2 c = line-labels _ _ _ (lt-ltb _ 2 c.if-g-lt2.true)

pub returns-then-columns_used-lt2 : goal.returns-then-columns_used-lt2
returns-then-columns_used-lt2 c =
    line-leading _ _ _ (le-ltb _ 2 c.if-g-lt2.false) (ap (λ (k : ℕ). ltb k 2) (sym c.columns_used.ensures) ∙ lt-ltb _ 2 c.if-columns_used-lt2.true)

pub returns : goal.returns
returns c = line-passed _ _ _ (le-ltb _ 2 c.if-g-lt2.false) (ap (λ (k : ℕ). ltb k 2) (sym c.columns_used.ensures) ∙ le-ltb _ 2 c.if-columns_used-lt2.false)
