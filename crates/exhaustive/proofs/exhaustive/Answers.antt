-- `exhaustive::exhaustive` meets its contract. Lines 1 to 5, the design, line 8, and then the rest.
use Rattle.lists.proofs.Base.{◌≡◌, sym, ap, ◌∙◌, arith}
use Rattle.outcome.specs.Outcome as outcome
use Rattle.outcome.proofs.Table.{told-passed, passed-on}
use Rattle.lot.specs.Lot.{Lot}
use Rattle.lot.specs.Given.{lot_given}
use Rattle.lot_design.proofs.{Designs.designs-lot, Accepted.designable, Accepted.design-sound}
use Rattle.exhaustive_ways.specs.Ways.{way_count}
use Rattle.exhaustive_ways.proofs.WayCounts.{few-ways}
use Rattle.exhaustive_hits.specs.Call.{Slices, slices_of, called}
use Rattle.exhaustive_hits.specs.inner.Call.{early}
use Rattle.exhaustive.proofs.PassedLines.{accepted, long, admitted}
use Rattle.exhaustive.proofs.Calls.{short-is, early-is, call-refused, call-many, call-passed}
use Rattle.exhaustive.proofs.exhaustive.Goals as goal
use Rattle.exhaustive.proofs.exhaustive.Goals.{In_ok-check_lot, Else-ways-gt-MOST_WAYS}

abbrev lot : In_ok-check_lot → Lot
lot c = lot_given c.args.lot

abbrev lent : In_ok-check_lot → Slices
lent c =
    let a = c.args in
    slices_of a.group_labels.now a.counts.now a.means.now a.pair_terms.now a.weighted_squares.now a.coords.now a.eigenpairs.now a.vectors.now a.label_counts.now

passed : (c : In_ok-check_lot) → early (lot c) (lent c) ≡ outcome.passed
passed c = sym (told-passed (early-is (lot c) (lent c) (short-is (lot c) (lent c) c.too_short-short.ensures) c.check_lot.ensures) c.in_ok-check_lot.was)

pub returns-in_err-check_lot : goal.returns-in_err-check_lot
returns-in_err-check_lot c =
    let a = c.args in
    let s : Slices = slices_of a.group_labels.now a.counts.now a.means.now a.pair_terms.now a.weighted_squares.now a.coords.now a.eigenpairs.now a.vectors.now a.label_counts.now in
    ap (λ r. called r s) (passed-on _ c.from_residual.ensures.1)
    ∙ call-refused (lot_given a.lot) s (early-is (lot_given a.lot) s (short-is (lot_given a.lot) s c.too_short-short.ensures) c.check_lot.ensures) c.in_err-check_lot.was

pub design_of-design-requires : goal.design_of-design-requires
design_of-design-requires c = let here = (goal.at.design_of-design-requires c).In_ok-check_lot in designable (lot here) (accepted (lot here) (lent here) (passed here))

pub ways_of-ways-requires : goal.ways_of-ways-requires
ways_of-ways-requires c =
    let here = (goal.at.ways_of-ways-requires c).In_ok-check_lot in
    design-sound (lot here) (designs-lot (lot here) c.design_of-design.ensures) (accepted (lot here) (lent here) (passed here))

pub returns-then-ways-gt-MOST_WAYS : goal.returns-then-ways-gt-MOST_WAYS
returns-then-ways-gt-MOST_WAYS c =
    let here = (goal.at.returns-then-ways-gt-MOST_WAYS c).In_ok-check_lot in
    call-many (lot here) (lent here) (passed here) (c.ways_of-ways.ensures (lot here) (designs-lot (lot here) c.design_of-design.ensures)) (omega (arith, c.if-ways-gt-MOST_WAYS.true))

-- M, which is not past the limit
same-ways : (c : Else-ways-gt-MOST_WAYS) → c.ways_of-ways.result ≡ way_count (lot_given c.args.lot)
same-ways c =
    let lot = lot_given c.args.lot in
    few-ways (way_count lot) (c.ways_of-ways.ensures lot (designs-lot lot c.design_of-design.ensures)) (omega (arith, c.if-ways-gt-MOST_WAYS.false))

pub invariant_of-admitted : goal.invariant_of-admitted
invariant_of-admitted c =
    let at = goal.at.invariant_of-admitted c in
    let here = at.In_ok-check_lot in
    record {
      admits = admitted (lot here) (lent here) (passed here) (designs-lot (lot here) c.design_of-design.ensures) (same-ways at.Else-ways-gt-MOST_WAYS) (omega (arith, c.if-ways-gt-MOST_WAYS.false));
    }

pub ordinate_and_answer-requires : goal.ordinate_and_answer-requires
ordinate_and_answer-requires c = let here = (goal.at.ordinate_and_answer-requires c).In_ok-check_lot in long (lot here) (lent here) (passed here)

pub returns : goal.returns
returns c =
    let at = goal.at.returns c in
    let here = at.In_ok-check_lot in
    call-passed (lot here) (lent here) (passed here) (omega (arith, same-ways at.Else-ways-gt-MOST_WAYS, c.if-ways-gt-MOST_WAYS.false)) c.ordinate_and_answer.ensures
