-- `lot_checks::few_labels` meets its contract. There are two groups if a second label is found.
use Rattle.lists.proofs.Base.{ap, ◌∙◌, ℕ, eqb}
use Rattle.limits.specs.Limits.{none}
use Rattle.lot.proofs.FewGroups.{other_label, few-labels}
use Rattle.lot_checks.proofs.few_labels.Goals as goal

pub returns : goal.returns
returns c =
    let labels = c.args.labels.now in
    ap (λ (b : ℕ). eqb b none) (c.other_label.ensures ∙ ap (other_label labels) c.other_label-a.ensures) ∙ few-labels labels
