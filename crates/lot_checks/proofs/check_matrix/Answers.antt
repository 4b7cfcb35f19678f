-- `lot_checks::check_matrix` meets its contract. Line by line.
use Rattle.lists.proofs.Base.{◌≡◌, sym, ◌∙◌, [], ◌∷◌}
use Rattle.outcome.specs.Refusals.{◌when◌, first}
use Rattle.outcome.proofs.Table.{first_holds, first_passes}
use Rattle.lot.specs.{Mirror.unmirrored, Lines.matrix_lines}
use Rattle.lot_checks.proofs.check_matrix.Goals as goal

pub returns-then-any_outside : goal.returns-then-any_outside
returns-then-any_outside c = sym (first_holds 3 _ (sym c.any_outside.ensures ∙ c.if-any_outside.true))

pub returns-then-unmirrored : goal.returns-then-unmirrored
returns-then-unmirrored c =
    let past-here : first (matrix_lines c.args.n c.args.distances.now) ≡ first ((14 when unmirrored c.args.n c.args.distances.now) ∷ []) =
    first_passes 3 _ (sym c.any_outside.ensures ∙ c.if-any_outside.false) in
    sym (past-here ∙ first_holds 14 [] (sym c.unmirrored.ensures ∙ c.if-unmirrored.true))

pub returns : goal.returns
unfolding first
returns c =
    let past-here : first (matrix_lines c.args.n c.args.distances.now) ≡ first ((14 when unmirrored c.args.n c.args.distances.now) ∷ []) =
    first_passes 3 ((14 when unmirrored c.args.n c.args.distances.now) ∷ []) (sym c.any_outside.ensures ∙ c.if-any_outside.false) in
    sym (past-here ∙ first_passes 14 [] (sym c.unmirrored.ensures ∙ c.if-unmirrored.false))
