-- `exhaustive_ways::next_label` meets its contract. None of the labels before i is left.
use Rattle.lists.proofs.Base.{◌≡◌, ap, ℕ, ◌+◌, ◌*◌, ◌≤◌, arith, length, get_or}
use Rattle.exhaustive_ways.specs.inner.Remaining.{HasRows}
use Rattle.exhaustive_ways.proofs.WayOrder.{passed_none, passed-more, label-found, label-missing}
use Rattle.exhaustive_ways.proofs.next_label.Goals as goal
use Rattle.exhaustive_ways.proofs.next_label.Goals.{After-entry}

same : (c : After-entry) → c.entry.result * c.args.g ≡ get_or c.args.ss.now c.args.at 0 * c.args.g
same c = ap (λ (s : ℕ). s * c.args.g) c.entry.ensures

row : (c : After-entry) → c.entry.result * c.args.g + c.args.g ≤ length c.args.counts.now
unfolding HasRows
row c = omega (arith, same c, c.requires.0 c.args.at c.requires.1)

pub overflow_mul-row : goal.overflow_mul-row
overflow_mul-row c = omega (arith, row (goal.at.overflow_mul-row c).After-entry, c.well_formed)

pub loop-i-init : goal.loop-i-init
loop-i-init c = let e = (goal.at.loop-i-init c).After-entry in (omega (arith, same e), omega (arith, row e), passed_none _ _ _ _ c.requires.2)

pub overflow_add-row : goal.overflow_add-row
overflow_add-row c = omega (arith, c.loop-i.invariant.1, c.well_formed)

pub offset_bounds-counts-row : goal.offset_bounds-counts-row
offset_bounds-counts-row c = omega (arith, c.loop-i.invariant.1, c.well_formed)

pub bounds-counts-row : goal.bounds-counts-row
bounds-counts-row c = omega (arith, c.loop-i.invariant.1)

pub returns-then-counts-row-gt0 : goal.returns-then-counts-row-gt0
returns-then-counts-row-gt0 c = let l = c.loop-i.invariant in (c.loop-i-test.true, label-found l.2 l.0 c.if-counts-row-gt0.true)

pub loop-i-preserved : goal.loop-i-preserved
loop-i-preserved c = let l = c.loop-i.invariant in (l.0, l.1, passed-more l.2 c.loop-i-test.true c.if-counts-row-gt0.false)

pub returns : goal.returns
returns c = let l = c.loop-i.invariant in label-missing l.2 l.0 c.loop-i-test.false
