-- `exhaustive_ways::give_back` meets its contract. One is put back at the label's place in the row.
use Rattle.lists.proofs.Base.{◌≡◌, ap, ap₂, subst, List, ℕ, suc, ◌+◌, ◌*◌, ◌≤◌, ◌<◌, add-one, arith, length, get_or}
use Rattle.exhaustive_ways.specs.inner.Order.{place, Node}
use Rattle.exhaustive_ways.proofs.WayOrder.{given_is, back_inside, back-small}
use Rattle.exhaustive_ways.proofs.give_back.Goals as goal
use Rattle.exhaustive_ways.proofs.give_back.Goals.{After-entry}

node : {g k : ℕ} {ss counts way : List ℕ} → Node g ss counts way (k + 1) → Node g ss counts way (suc k)
node {g} {k} {ss} {counts} {way} h = subst (Node g ss counts way) (add-one k) h

-- where the label stands in the rows
spot : (c : After-entry) → c.entry.result * c.args.g + c.entry-j.result ≡ place c.args.g c.args.ss.now c.args.at (get_or c.args.way.now c.args.at 0)
spot c = ap₂ (λ (s j : ℕ). s * c.args.g + j) c.entry.ensures c.entry-j.ensures

inside : (c : After-entry) → c.entry.result * c.args.g + c.entry-j.result < length c.args.counts.now
inside c = omega (arith, back_inside (node c.requires), spot c)

small : (c : After-entry) → get_or c.args.counts.now (c.entry.result * c.args.g + c.entry-j.result) 0 ≤ 256
small c = omega (arith, back-small (node c.requires), ap (λ (p : ℕ). get_or c.args.counts.now p 0) (spot c))

pub entry-j-requires : goal.entry-j-requires
entry-j-requires c = let n = node c.requires in omega (arith, n.within, n.sized)

pub entry-requires : goal.entry-requires
entry-requires c = let n = node c.requires in omega (arith, n.within)

pub overflow_mul-p : goal.overflow_mul-p
overflow_mul-p c = omega (arith, inside (goal.at.overflow_mul-p c).After-entry, c.well_formed)

pub overflow_add-p : goal.overflow_add-p
overflow_add-p c = omega (arith, inside (goal.at.overflow_add-p c).After-entry, c.well_formed)

pub offset_bounds-counts-p : goal.offset_bounds-counts-p
offset_bounds-counts-p c = omega (arith, inside (goal.at.offset_bounds-counts-p c).After-entry, c.well_formed)

pub bounds-counts-p : goal.bounds-counts-p
bounds-counts-p c = inside (goal.at.bounds-counts-p c).After-entry

pub overflow_add-counts : goal.overflow_add-counts
overflow_add-counts c = omega (arith, small (goal.at.overflow_add-counts c).After-entry)

pub bounds-counts-p-2 : goal.bounds-counts-p-2
bounds-counts-p-2 c = inside (goal.at.bounds-counts-p-2 c).After-entry

pub returns : goal.returns
returns c = (c.entry-j.ensures, given_is c.args.counts.now (spot (goal.at.returns c).After-entry) (omega arith))
