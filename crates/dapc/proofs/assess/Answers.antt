-- `dapc::assess` meets its contract. The design's groups on its samples are ready for the scores.
use Rattle.lists.proofs.Base.{◌≡◌, sym, subst, ◌∙◌, List, ◌++◌, ℕ, ◌≤◌, arith, rules, length, take, drop, replicate, length-take-le}
use Rattle.lists.specs.inner.Numbers.{Below}
use Rattle.limits.specs.Limits.{none}
use Rattle.lot_design.proofs.PlacedGroups.{placed-fits, placed-front}
use Rattle.lot_design.specs.inner.Designs.{kept_of, groups_of}
use Rattle.dapc.specs.inner.Scores.{each_of}
use Rattle.dapc.proofs.Calls.{groups-ready, scores-are}
use Rattle.dapc.proofs.assess.Goals as goal

-- room for a group for each sample, none of which has one
abbrev room : List ℕ
room = replicate 256 none

pub place-requires : goal.place-requires
place-requires c =
    let room-long-here : length (take c.args.d.n room) ≡ c.args.d.n = length-take-le c.args.d.n room c.requires.few in
    let samples-fit-here : c.args.d.kept ≤ length c.args.d.samples = let long : length c.args.d.samples ≡ 256 = search rules in omega (arith, c.requires.kept_few) in
    let groups-fit-here : c.args.d.kept ≤ length c.args.d.group = let long : length c.args.d.group ≡ 256 = search rules in omega (arith, c.requires.kept_few) in (
      length-take-le _ _ groups-fit-here ∙ sym (length-take-le _ _ samples-fit-here),
      subst (λ (n : ℕ). Below n (kept_of c.args.d)) (sym room-long-here) c.requires.samples,
    )

pub discriminate-requires : goal.discriminate-requires
discriminate-requires c =
    let each-here : List ℕ = c.place.new.each ++ drop c.args.d.n room in
    let front-here : take c.args.d.n each-here ≡ each_of c.args.d = let d = c.args.d in placed-front d.n c.requires.few (kept_of d) (groups_of d) c.place.ensures c.place.auto.each in
    groups-ready c.requires front-here c.columns_used-p.ensures

pub returns : goal.returns
returns c =
    let each-here : List ℕ = c.place.new.each ++ drop c.args.d.n room in
    let fits-here : c.args.d.n ≤ length each-here = let d = c.args.d in placed-fits d.n c.requires.few (kept_of d) (groups_of d) c.place.ensures c.place.auto.each in
    let long-here : length (take c.args.d.n each-here) ≡ c.args.d.n = length-take-le c.args.d.n each-here fits-here in
    let front-here : take c.args.d.n each-here ≡ each_of c.args.d = let d = c.args.d in placed-front d.n c.requires.few (kept_of d) (groups_of d) c.place.ensures c.place.auto.each in
    scores-are c.requires front-here c.columns_used-p.ensures
    c.args.out.now c.args.assigned.now long-here c.discriminate.ensures
