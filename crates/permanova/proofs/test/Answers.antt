-- `permanova::test` meets its contract. By whether a line of the table holds.
use Rattle.lists.proofs.Base.{◌≡◌, sym, ap, ◌∙◌}
use Rattle.std.specs.Prelude.{Result}
use Rattle.outcome.specs.declared.Refusal.{Refusal}
use Rattle.outcome.specs.{Numbers.told}
use Rattle.outcome.proofs.Table.{told-passed, passed-on}
use Rattle.lot.specs.{Lot.Lot, Given.lot_given}
use Rattle.lot_design.proofs.{Designs.designs-lot, Accepted.designable}
use Rattle.permanova_sampling.specs.declared.TestResult.{TestResult}
use Rattle.permanova.specs.Call.{Slices, slices_of, test_check, called}
use Rattle.permanova.proofs.AcceptedCalls.{accepted-call, names-room, runs}
use Rattle.permanova.proofs.Calls.{checked, call-answered, call-refused, call-passed}
use Rattle.permanova.proofs.test.Goals as goal
use Rattle.permanova.proofs.test.Goals.{After-check_lot, After-design_of-d}

lot : After-check_lot → Lot
lot c = lot_given c.args.lot

lent : After-check_lot → Slices
lent c = let a = c.args in slices_of a.group_labels.now a.counts.now a.means.now a.pair_terms.now a.weighted_squares.now

said : (c : After-check_lot) → told c.check_lot.result ≡ test_check (lot c) c.args.n_perm (lent c)
unfolding lot lent
said c = checked (lot c) c.args.seed c.args.n_perm (lent c) c.too_short-short.ensures c.too_many-beyond.ensures c.check_lot.ensures

pub returns-in_err-check_lot : goal.returns-in_err-check_lot
unfolding lot lent
returns-in_err-check_lot c =
    let here = (goal.at.returns-in_err-check_lot c).After-check_lot in
    ap (λ (r : Result TestResult Refusal). called r (lent here)) (passed-on _ c.from_residual.ensures.1)
    ∙ call-refused (lot here) c.args.seed c.args.n_perm (lent here) (said here) c.in_err-check_lot.was

pub design_of-d-requires : goal.design_of-d-requires
unfolding lot lent
design_of-d-requires c =
    let here = (goal.at.design_of-d-requires c).After-check_lot in
    designable (lot here) (accepted-call (lot here) c.args.n_perm (lent here) (sym (told-passed (said here) c.in_ok-check_lot.was))).passed

pub fill_group_labels-requires : goal.fill_group_labels-requires
unfolding lot lent
fill_group_labels-requires c =
    let here = (goal.at.fill_group_labels-requires c).After-check_lot in
    names-room (lot here) c.args.seed c.args.n_perm (lent here) (sym (told-passed (said here) c.in_ok-check_lot.was)) (designs-lot (lot here) c.design_of-d.ensures)

pub run-requires : goal.run-requires
unfolding lot lent
run-requires c =
    let here = (goal.at.run-requires c).After-check_lot in
    runs (lot here) c.args.seed c.args.n_perm (lent here) (sym (told-passed (said here) c.in_ok-check_lot.was)) (designs-lot (lot here) c.design_of-d.ensures)

pub returns : goal.returns
unfolding lot lent
returns c =
    let here = (goal.at.returns c).After-check_lot in
    call-passed (lot here) c.args.seed c.args.n_perm (lent here) (told-passed (said here) c.in_ok-check_lot.was)
    (call-answered (lot here) c.args.seed c.args.n_perm (designs-lot (lot here) c.design_of-d.ensures) (lent here) _ c.fill_group_labels.ensures c.run.ensures)
