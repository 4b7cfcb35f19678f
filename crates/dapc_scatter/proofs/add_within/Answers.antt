-- `dapc_scatter::add_within` meets its contract. After i turns the first i samples are added.
use Rattle.lists.proofs.Base.{◌*◌, ◌+◌, ◌≤◌, refl, sym, ap, ◌∙◌, arith, length}
use Rattle.lists.proofs.{Rows.row-end, Grids.length_front}
use Rattle.dapc_scatter.proofs.{Adding.adding-none, Groups.is-numbered}
use Rattle.dapc_scatter.proofs.Scatter.{within-turn, within-pass, within_end}
use Rattle.dapc_scatter.proofs.add_within.Goals as goal
use Rattle.dapc_scatter.proofs.add_within.Goals.{in-Some, in_default}

pub loop-i-init : goal.loop-i-init
loop-i-init c = let pre = c.requires in (adding-none _ _ _ _ _ _ pre.0, pre.1)

pub subtract-requires : goal.subtract-requires
subtract-requires c =
    let s = c.args.leading in
    let turn = c.loop-i in
    let j = c.in-Some.j in
    let p = s.lead in
    let told = c.in-Some.ensures in
    let below = is-numbered s.groups.now turn.i told.0 c.args.g c.requires.3 c.loop-i-test.true told.1 in
    let sample : turn.i * s.columns + p ≤ length s.x.now = omega (arith, row-end s.columns turn.i (length s.groups.now) c.loop-i-test.true) in
    let group : j * p + p ≤ length c.args.mu.now = omega (arith, row-end p j c.args.g below) in
    (length_front s.columns turn.i p s.x.now sample ∙ sym turn.invariant.1, length_front p j p c.args.mu.now group ∙ sym turn.invariant.1)

pub add_outer-requires : goal.add_outer-requires
add_outer-requires c =
    let inv = c.loop-i.invariant in
    (inv.0.long, c.subtract.auto.row ∙ inv.1, c.subtract.auto.row ∙ inv.1)

pub loop-i-preserved : goal.loop-i-preserved
loop-i-preserved c =
    let turn = c.loop-i in
    let s = c.args.leading in
    let mu = c.args.mu.now in
    elim c.match-group.branch [
      | in-Some w ↦ (
        within-turn s.lead s.columns s.x.now s.groups.now mu _ turn.sw turn.invariant.0 c.loop-i-test.true w.in-Some.ensures.0
            w.in-Some.ensures.1 turn.invariant.1 w.subtract.ensures (w.sw-is ∙ w.add_outer.ensures),
        ap length w.d-is ∙ w.subtract.auto.row ∙ turn.invariant.1,
      )
      | in_default w ↦ (
        within-pass s.lead s.columns s.x.now s.groups.now mu _ turn.sw turn.invariant.0 c.loop-i-test.true refl w.in_default.ensures w.sw-is,
        ap length w.d-is ∙ turn.invariant.1,
      )
    ]

pub returns : goal.returns
returns c =
    let s = c.args.leading in
    within_end s.lead s.columns s.x.now s.groups.now c.args.mu.now _ c.loop-i.invariant.0 c.loop-i-test.false
