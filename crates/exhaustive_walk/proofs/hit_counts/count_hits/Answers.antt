-- `exhaustive_walk::hit_counts::count_hits` meets its contract. The rows are filled, and the walk starts at the first sample.
use Rattle.lists.proofs.Base.{sym, ap, ◌∙◌, List, ℕ, ◌≤◌, arith, length, take, replicate, length-take-le}
use Rattle.lists.specs.Writes.{cleared}
use Rattle.exhaustive_ways.specs.inner.Remaining.{HasRows}
use Rattle.exhaustive_hits.specs.inner.WayHits.{hits_among}
use Rattle.exhaustive_ways.proofs.{CountsLeft.zeros-cleared, CountsLeft.onward-ways, WayOrder.rows-longer}
use Rattle.exhaustive_walk.proofs.WalkStart.{start-walking}
use Rattle.exhaustive_walk.proofs.hit_counts.count_hits.Goals as goal
use Rattle.exhaustive_walk.proofs.hit_counts.count_hits.Goals.{After-fill}

rows : (c : After-fill) → HasRows c.args.b.frame.groups c.args.strata.now c.fill.new.self
rows c = rows-longer c.args.b.frame.groups c.args.strata.now c.args.counts.now c.fill.new.self c.requires.ways.1 c.fill.auto.self

few : (c : After-fill) → length c.args.strata.now ≤ 256
few c = omega (arith, c.requires.ways.0.samples, c.args.b.prepared.placing.framed.kept)

-- room for a way, of zeros
abbrev room : ℕ → List ℕ
room n = take n (replicate 256 0)

pub fill_counts-requires-clause-rows : goal.fill_counts-requires-clause-rows
fill_counts-requires-clause-rows c = rows (goal.at.fill_counts-requires-clause-rows c).After-fill

pub fill_counts-requires-clause-zeros : goal.fill_counts-requires-clause-zeros
unfolding cleared
fill_counts-requires-clause-zeros c = zeros-cleared c.args.counts.now (c.fill.ensures.after (λ _ e. e))

pub slice_bounds-walk-end : goal.slice_bounds-walk-end
slice_bounds-walk-end c = sym (length-take-le (length c.args.strata.now) (replicate 256 0) (few (goal.at.slice_bounds-walk-end c).After-fill))

pub walk-requires-clause-walking : goal.walk-requires-clause-walking
walk-requires-clause-walking c =
    let a = c.args in
    let at = (goal.at.walk-requires-clause-walking c).After-fill in
    let n = length a.strata.now in
    start-walking a.b.frame a.b.samples.now a.strata.now a.gs.now c.fill.new.self (rows at) c.fill_counts.ensures (room n) a.b.prepared.placing.framed c.requires.ways.0
    (length-take-le n (replicate 256 0) (few at))

pub returns : goal.returns
returns c =
    let a = c.args in
    c.walk.ensures ∙ ap (hits_among _ _) (onward-ways a.b.frame.groups a.strata.now a.gs.now c.fill.new.self (rows (goal.at.returns c).After-fill) c.fill_counts.ensures)
