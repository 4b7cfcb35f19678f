-- `lot_checks::check_lot` meets its contract: the groups go one after another, and the first that refuses wins.
use Rattle.lists.proofs.Base.{◌≡◌, sym, ap, ◌∙◌, Bool, ◌||◌, List, ◌++◌, arith}
use Rattle.std.specs.Prelude.{is_some}
use Rattle.outcome.specs.{Numbers.told, Refusals.Line, Refusals.first}
use Rattle.outcome.proofs.Table.{check-refused, check-next, told-passed, passed-on}
use Rattle.lists.proofs.Truths.{or-neither}
use Rattle.lot.specs.{Lot.Lot, Given.held_by, Given.lot_given, Lines.misfits, Lines.size_lines, Lines.matrix_lines, Lines.label_lines, Lines.test_lines}
use Rattle.lot.proofs.AcceptedLots.{Fits, Sized, sizes-known, parts-fit}
use Rattle.lot_checks.proofs.check_lot.Goals as goal
use Rattle.lot_checks.proofs.check_lot.Goals.{After-check_sizes, In_ok-check_sizes}

lot : After-check_sizes → Lot
lot c = lot_given c.args.lot

sizes : After-check_sizes → List Line
sizes c = size_lines (misfits (lot c) || c.args.short) c.args.lot.n c.args.beyond

matrix : After-check_sizes → List Line
matrix c = matrix_lines c.args.lot.n c.args.lot.distances.now

labels : After-check_sizes → List Line
labels c = let l = c.args.lot in label_lines l.labels.now (is_some l.weights) (held_by l.weights)

sized : (c : After-check_sizes) → told c.check_sizes.result ≡ first (sizes c)
unfolding sizes lot
sized c = c.check_sizes.ensures ∙ ap (λ (b : Bool). first (size_lines b c.args.lot.n c.args.beyond)) c.misfits.ensures

known : (c : In_ok-check_sizes) → Sized (misfits (lot_given c.args.lot) || c.args.short) c.args.lot.n c.args.beyond
known c =
    let sized-here = c.check_sizes.ensures ∙ ap (λ (b : Bool). first (size_lines b c.args.lot.n c.args.beyond)) c.misfits.ensures in
    sizes-known _ _ _ (sym (told-passed sized-here c.in_ok-check_sizes.was))

fits : (c : In_ok-check_sizes) → Fits (lot_given c.args.lot)
fits c = parts-fit _ (or-neither _ _ (known c).fit).0

pub returns-in_err-check_sizes : goal.returns-in_err-check_sizes
unfolding test_lines sizes matrix labels lot
returns-in_err-check_sizes c =
    let here = (goal.at.returns-in_err-check_sizes c).After-check_sizes in
    ap told (passed-on _ c.from_residual.ensures.1 ∙ sym c.in_err-check_sizes.was) ∙ check-refused (sizes here) (matrix here ++ labels here) (sized here) c.in_err-check_sizes.was

pub check_matrix-requires : goal.check_matrix-requires
check_matrix-requires c = (fits (goal.at.check_matrix-requires c).In_ok-check_sizes).distances_fit

pub returns-in_err-check_matrix : goal.returns-in_err-check_matrix
unfolding test_lines sizes matrix labels lot
returns-in_err-check_matrix c =
    let here = (goal.at.returns-in_err-check_matrix c).After-check_sizes in
    ap told (passed-on _ c.from_residual-in_err-check_matrix.ensures.1 ∙ sym c.in_err-check_matrix.was)
    ∙ check-next (sizes here) (matrix here ++ labels here) (sized here) c.in_ok-check_sizes.was
    (check-refused (matrix here) (labels here) c.check_matrix.ensures c.in_err-check_matrix.was)

pub check_labels-requires : goal.check_labels-requires
check_labels-requires c =
    let here = (goal.at.check_labels-requires c).In_ok-check_sizes in
    omega (arith, (fits here).labels_fit, (known here).few)

pub returns : goal.returns
unfolding test_lines sizes matrix labels lot
returns c =
    let here = (goal.at.returns c).After-check_sizes in
    check-next (sizes here) (matrix here ++ labels here) (sized here) c.in_ok-check_sizes.was
    (check-next (matrix here) (labels here) c.check_matrix.ensures c.in_ok-check_matrix.was c.check_labels.ensures)
