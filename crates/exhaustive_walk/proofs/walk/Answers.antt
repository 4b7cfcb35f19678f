-- `exhaustive_walk::walk` meets its contract. The ways done so far are counted, and the next stands in `way`.
use Rattle.lists.proofs.Base.{refl, sym, ap, ◌∙◌, ◌+◌, ◌<◌, ◌^◌}
use Rattle.exhaustive_hits.specs.inner.WayHits.{hits_among}
use Rattle.exhaustive_walk.proofs.WalkCounts.{walked-first, walked_all, walked-member, walked_more, walked-fits, fewer, first-ways, few-ways, judgeable}
use Rattle.exhaustive_walk.proofs.walk.Goals as goal
use Rattle.exhaustive_walk.proofs.walk.Goals.{After-hits_of_way-more}

-- the walk began at the first of all ways, and they are few
sums : (c : After-hits_of_way-more) → let more = c.hits_of_way-more.result in
    (c.ways.hits.location + more.location < 2 ^ 64) × (c.ways.hits.dispersion + more.dispersion < 2 ^ 64) × (c.ways.hits.assignment + more.assignment < 2 ^ 64)
sums c = walked-fits c.ways.invariant.3 c.hits_of_way-more.ensures (2 ^ 64) (few-ways c.requires.walking (first-ways _ _ _ _ c.fill.ensures).all)

pub ways-init : goal.ways-init
ways-init c = (refl, refl, refl, walked-first _ _ (first-ways _ _ _ _ c.fill.ensures))

pub hits_of_way-more-requires-clause-judged : goal.hits_of_way-more-requires-clause-judged
hits_of_way-more-requires-clause-judged c = judgeable c.requires.walking (first-ways _ _ _ _ c.fill.ensures).all (walked-member c.ways.invariant.3)

pub overflow_add-hits : goal.overflow_add-hits
overflow_add-hits c = record { fits = (sums (goal.at.overflow_add-hits c).After-hits_of_way-more).0 }

pub overflow_add-hits-in-ways : goal.overflow_add-hits-in-ways
overflow_add-hits-in-ways c = record { fits = (sums (goal.at.overflow_add-hits-in-ways c).After-hits_of_way-more).1 }

pub overflow_add-hits-in-ways-2 : goal.overflow_add-hits-in-ways-2
overflow_add-hits-in-ways-2 c = record { fits = (sums (goal.at.overflow_add-hits-in-ways-2 c).After-hits_of_way-more).2 }

pub ways-smaller : goal.ways-smaller
ways-smaller c = fewer c.ways.invariant.3 c.hits_of_way-more.ensures _ _ c.next_way.ensures c.if-not-next_way.false

pub ways-preserved : goal.ways-preserved
ways-preserved c =
    let inv = c.ways.invariant in (
      c.next_way.auto.counts ∙ inv.0,
      c.next_way.auto.way ∙ inv.1,
      c.hits_of_way-more.auto.scores ∙ inv.2,
      walked_more inv.3 c.hits_of_way-more.ensures _ _ c.next_way.ensures c.if-not-next_way.false,
    )

pub returns-then-not-next_way : goal.returns-then-not-next_way
returns-then-not-next_way c =
    walked_all c.ways.invariant.3 c.hits_of_way-more.ensures _ _ c.next_way.ensures c.if-not-next_way.true
    ∙ ap (hits_among _ _) (sym (first-ways _ _ _ _ c.fill.ensures).all)
