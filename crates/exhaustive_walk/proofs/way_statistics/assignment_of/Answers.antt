-- `exhaustive_walk::way_statistics::assignment_of` meets its contract. None where the coordinates are barred, else by the scores of the way's groups.
use Rattle.lists.proofs.Base.{◌≡◌, sym, subst, ◌∙◌, List, ◌++◌, ℕ, ◌≤◌, length, take, drop, replicate, length-take-le}
use Rattle.lists.specs.inner.Numbers.{Below}
use Rattle.limits.specs.Limits.{none}
use Rattle.lot_design.specs.inner.Groups.{placed}
use Rattle.lot_design.proofs.PlacedGroups.{placed-fits, placed-front}
use Rattle.exhaustive_walk.proofs.WayStatisticsCases.{found-by, way-ready, way-found, assignment-barred}
use Rattle.exhaustive_walk.proofs.way_statistics.assignment_of.Goals as goal
use Rattle.exhaustive_walk.proofs.way_statistics.assignment_of.Goals.{Else-f, After-place}

-- room for a group for each sample, none of which has one
abbrev room : List ℕ
room = replicate 256 none

room-long : (c : Else-f) → length (take c.args.b.frame.n room) ≡ c.args.b.frame.n
room-long c = length-take-le c.args.b.frame.n room c.args.b.prepared.placing.framed.few

-- the groups of all samples
abbrev each : After-place → List ℕ
each c = c.place.new.each ++ drop c.args.b.frame.n room

fits : (c : After-place) → c.args.b.frame.n ≤ length (each c)
fits c = placed-fits c.args.b.frame.n c.args.b.prepared.placing.framed.few c.args.b.samples.now c.args.way.now c.place.ensures c.place.auto.each

long : (c : After-place) → length (take c.args.b.frame.n (each c)) ≡ c.args.b.frame.n
long c = length-take-le c.args.b.frame.n (each c) (fits c)

front : (c : After-place) → take c.args.b.frame.n (each c) ≡ placed c.args.b.frame.n c.args.b.samples.now c.args.way.now
front c = placed-front c.args.b.frame.n c.args.b.prepared.placing.framed.few c.args.b.samples.now c.args.way.now c.place.ensures c.place.auto.each

pub returns-then-f : goal.returns-then-f
returns-then-f c = let b = c.args.b in assignment-barred b.frame b.coords.now b.samples.now c.args.way.now c.if-f.true

pub slice_bounds-place-end : goal.slice_bounds-place-end
slice_bounds-place-end c = sym (room-long (goal.at.slice_bounds-place-end c).Else-f)

pub place-requires : goal.place-requires
place-requires c = (
  c.requires.judged.all ∙ sym c.args.b.prepared.placing.samples,
  subst (λ (k : ℕ). Below k c.args.b.samples.now) (sym (room-long (goal.at.place-requires c).Else-f)) c.args.b.prepared.placing.places,
)

pub slice_bounds-each-end-2 : goal.slice_bounds-each-end-2
slice_bounds-each-end-2 c = fits (goal.at.slice_bounds-each-end-2 c).After-place

pub slice_bounds-discriminate-end-2 : goal.slice_bounds-discriminate-end-2
slice_bounds-discriminate-end-2 c = sym (long (goal.at.slice_bounds-discriminate-end-2 c).After-place)

pub discriminate-r-requires : goal.discriminate-r-requires
discriminate-r-requires c = let p = (goal.at.discriminate-r-requires c).After-place in way-ready c.args.b.prepared.placing c.requires.room c.requires.judged (front p) (long p)

pub returns : goal.returns
returns c =
    let p = (goal.at.returns c).After-place in
    way-found c.args.b.prepared.placing c.requires.room c.requires.judged (front p) (long p) c.if-f.false
    (found-by _ _ _ _ _ _ c.discriminate-r.result c.right_of.ensures c.discriminate-r.ensures)
