-- `lot_checks::check_labels` meets its contract. Line by line.
use Rattle.lists.proofs.Base.{◌≡◌, sym, ◌∙◌, [], ◌∷◌, ltb}
use Rattle.outcome.specs.Refusals.{◌when◌, first}
use Rattle.outcome.proofs.Table.{first_holds, first_passes}
use Rattle.std.specs.Prelude.{is_some}
use Rattle.lot.specs.{Kept.group_count, Given.held_by, Lines.label_lines}
use Rattle.lot_checks.proofs.check_labels.Goals as goal

pub returns-then-bad_weights : goal.returns-then-bad_weights
returns-then-bad_weights c = sym (first_holds 4 _ (sym c.bad_weights.ensures ∙ c.if-bad_weights.true))

pub returns-then-few_labels : goal.returns-then-few_labels
returns-then-few_labels c =
    let past-here : first (label_lines c.args.labels.now (is_some c.args.weights) (held_by c.args.weights)) ≡ first ((5 when ltb (group_count c.args.labels.now) 2) ∷ []) =
    first_passes 4 _ (sym c.bad_weights.ensures ∙ c.if-bad_weights.false) in
    sym (past-here ∙ first_holds 5 [] (sym c.few_labels.ensures ∙ c.if-few_labels.true))

pub returns : goal.returns
unfolding first
returns c =
    let past-here : first (label_lines c.args.labels.now (is_some c.args.weights) (held_by c.args.weights)) ≡ first ((5 when ltb (group_count c.args.labels.now) 2) ∷ []) =
    first_passes 4 ((5 when ltb (group_count c.args.labels.now) 2) ∷ []) (sym c.bad_weights.ensures ∙ c.if-bad_weights.false) in
    sym (past-here ∙ first_passes 5 [] (sym c.few_labels.ensures ∙ c.if-few_labels.false))
