-- `lot_checks::other_label` meets its contract. The search is that for the first label that two samples have, other than l.
use Rattle.std.proofs.Common.{rules, unwrap_or}
use Rattle.std.proofs.lemmas.Iterator.{YieldsList-from_slice}
use borrow.Author.Tests.{tests}
use Rattle.lists.proofs.Base.{◌≡◌, sym, ap, ◌∙◌, ℕ, get_or, length, List·get_or-eq-default, arith}
use Rattle.lists.proofs.Parts.{get_or-either}
use Rattle.lists.proofs.Chains.{position_ran}
use Rattle.lists.specs.Filters.{first_at}
use Rattle.limits.specs.Limits.{none}
use Rattle.lot.proofs.FewGroups.{other_than}
use Rattle.lot_checks.proofs.other_label.Goals as goal
use Rattle.lot_checks.proofs.other_label.Goals.{After-position-first}

place : (c : After-position-first) → unwrap_or c.position-first.result (length c.args.labels.now) ≡ first_at (other_than c.args.labels.now c.args.l) c.args.labels.now
place c = position_ran _ _ _ _ c.position-first.ensures.ran (YieldsList-from_slice c.args.labels.now cc) (λ x b q k. search (rules, tests))

pub returns-in-Some : goal.returns-in-Some
returns-in-Some c =
    let labels = c.args.labels.now in
    let at : first_at (other_than labels c.args.l) labels ≡ c.in-Some.i =
    sym (place (goal.at.returns-in-Some c).After-position-first) ∙ ap (λ o. unwrap_or o (length labels)) c.in-Some.is in
    get_or-either labels c.in-Some.i 0 none (search rules) ∙ ap (λ (k : ℕ). get_or labels k none) (sym at)

pub returns-in-None : goal.returns-in-None
returns-in-None c =
    let labels = c.args.labels.now in
    let at : first_at (other_than labels c.args.l) labels ≡ length labels =
    sym (place (goal.at.returns-in-None c).After-position-first) ∙ ap (λ o. unwrap_or o (length labels)) c.in-None.is in
    sym (ap (λ (k : ℕ). get_or labels k none) at ∙ List·get_or-eq-default labels none (omega arith))
