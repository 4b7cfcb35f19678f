-- `exhaustive_ways::put` meets its contract. One is taken at the label's place in the row, and the label is written.
use Rattle.lists.proofs.Base.{refl, ap, ℕ, ◌+◌, ◌*◌, ◌<◌, arith, length, get_or}
use Rattle.exhaustive_ways.proofs.WayOrder.{taken_is, node-inside}
use Rattle.exhaustive_ways.proofs.put.Goals as goal
use Rattle.exhaustive_ways.proofs.put.Goals.{After-entry}

inside : (c : After-entry) → c.entry.result * c.args.g + c.args.j < length c.args.counts.now
inside c = omega (arith, node-inside c.requires.0 c.requires.1 c.args.j c.requires.2, ap (λ (k : ℕ). k * c.args.g) c.entry.ensures)

-- one is left to take
some : (c : After-entry) → 0 < get_or c.args.counts.now (c.entry.result * c.args.g + c.args.j) 0
some c = let a = c.args in omega (arith, c.requires.3, ap (λ (k : ℕ). get_or a.counts.now (k * a.g + a.j) 0) c.entry.ensures)

pub overflow_mul-p : goal.overflow_mul-p
overflow_mul-p c = omega (arith, inside (goal.at.overflow_mul-p c).After-entry, c.well_formed)

pub overflow_add-p : goal.overflow_add-p
overflow_add-p c = omega (arith, inside (goal.at.overflow_add-p c).After-entry, c.well_formed)

pub offset_bounds-counts-p : goal.offset_bounds-counts-p
offset_bounds-counts-p c = omega (arith, inside (goal.at.offset_bounds-counts-p c).After-entry, c.well_formed)

pub bounds-counts-p : goal.bounds-counts-p
bounds-counts-p c = inside (goal.at.bounds-counts-p c).After-entry

pub overflow_sub-counts : goal.overflow_sub-counts
overflow_sub-counts c = omega (arith, some (goal.at.overflow_sub-counts c).After-entry)

pub bounds-counts-p-2 : goal.bounds-counts-p-2
bounds-counts-p-2 c = inside (goal.at.bounds-counts-p-2 c).After-entry

pub returns : goal.returns
returns c = let a = c.args in (taken_is a.counts.now (ap (λ (k : ℕ). k * a.g + a.j) c.entry.ensures) (omega arith), refl)
