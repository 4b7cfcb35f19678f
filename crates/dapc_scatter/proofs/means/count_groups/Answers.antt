-- `dapc_scatter::means::count_groups` meets its contract. After i turns the first i samples are counted.
use Rattle.lists.proofs.Base.{sym, subst, List, ℕ, ◌+◌, arith, length}
use Rattle.dapc_scatter.proofs.Counting.{Counting, counting-none, counting-next, counting-pass, counting-all, counting-room}
use Rattle.dapc_scatter.proofs.Groups.{is-numbered}
use Rattle.dapc_scatter.proofs.means.count_groups.Goals as goal
use Rattle.dapc_scatter.proofs.means.count_groups.Goals.{in-Some, in_default}

pub loop-i-init : goal.loop-i-init
loop-i-init c = counting-none _ _ _ c.requires.0

pub overflow_add-counts : goal.overflow_add-counts
overflow_add-counts c =
    let groups = c.args.leading.groups.now in
    let g = length c.args.counts.now in
    let told = c.in-Some.ensures in
    let under = is-numbered groups c.loop-i.i told.0 g c.requires.1 c.loop-i-test.true told.1 in
    omega (arith, c.loop-i.invariant.long, counting-room groups g c.loop-i.invariant c.loop-i-test.true under (sym told.0))

pub loop-i-preserved : goal.loop-i-preserved
loop-i-preserved c =
    let groups = c.args.leading.groups.now in
    let g = length c.args.counts.now in
    let turn = c.loop-i in
    let more = c.loop-i-test.true in
    let next = λ (l : List ℕ). Counting groups g l (turn.i + 1) in
    elim c.match-group.branch [
      | in-Some w ↦ subst next (sym w.counts-is)
          (counting-next groups g turn.invariant more (is-numbered groups turn.i w.in-Some.ensures.0 g c.requires.1 more w.in-Some.ensures.1) (sym w.in-Some.ensures.0))
      | in_default w ↦ subst next (sym w.counts-is) (counting-pass groups g turn.invariant more (λ j h q. omega (arith, w.in_default.ensures)))
    ]

pub returns : goal.returns
returns c = counting-all _ _ c.loop-i.invariant c.loop-i-test.false
