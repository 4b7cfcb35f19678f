-- `dapc_scatter::means::add_members` meets its contract. After i turns the first i samples are added.
use Rattle.lists.proofs.Base.{◌*◌, ◌+◌, ◌≤◌, refl, sym, ◌∙◌, arith, length}
use Rattle.lists.proofs.{Rows.row-end, Rows.length_part, Grids.length_front}
use Rattle.dapc_scatter.proofs.{Adding.adding-none, Groups.is-numbered}
use Rattle.dapc_scatter.proofs.MeanSums.{group-turn, group-pass, group-end}
use Rattle.dapc_scatter.proofs.means.add_members.Goals as goal
use Rattle.dapc_scatter.proofs.means.add_members.Goals.{in-Some, in_default}

pub loop-i-init : goal.loop-i-init
loop-i-init c = adding-none _ _ _ _ _ _ c.requires.0

pub add-requires : goal.add-requires
add-requires c =
    let s = c.args.leading in
    let turn = c.loop-i in
    let g = c.args.g in
    let j = c.in-Some.j in
    let p = s.lead in
    let told = c.in-Some.ensures in
    let below = is-numbered s.groups.now turn.i told.0 g c.requires.2 c.loop-i-test.true told.1 in
    let sample : turn.i * s.columns + p ≤ length s.x.now = omega (arith, row-end s.columns _ _ c.loop-i-test.true) in
    let group : j * p + p ≤ length turn.mu = omega (arith, row-end p j g below, turn.invariant.long) in
    length_front s.columns turn.i p s.x.now sample ∙ sym (length_part p j turn.mu group)

pub loop-i-preserved : goal.loop-i-preserved
loop-i-preserved c =
    let turn = c.loop-i in
    let s = c.args.leading in
    let g = c.args.g in
    elim c.match-group.branch [
      | in-Some w ↦ group-turn s.lead s.columns s.x.now s.groups.now _ g turn.mu _ turn.invariant c.loop-i-test.true w.in-Some.ensures.0
          (is-numbered s.groups.now turn.i w.in-Some.ensures.0 g c.requires.2 c.loop-i-test.true w.in-Some.ensures.1) w.add.ensures w.mu-is
      | in_default w ↦ group-pass s.lead s.columns s.x.now s.groups.now _ g turn.mu turn.invariant c.loop-i-test.true
          refl (omega arith) w.in_default.ensures w.mu-is
    ]

pub returns : goal.returns
returns c = let s = c.args.leading in group-end s.lead s.columns s.x.now s.groups.now _ c.args.g c.loop-i.invariant c.loop-i-test.false
