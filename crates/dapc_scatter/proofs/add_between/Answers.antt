-- `dapc_scatter::add_between` meets its contract. After j turns the first j groups are added.
use Rattle.lists.proofs.Base.{◌*◌, ◌+◌, ◌≤◌, ◌^◌, sym, ◌∙◌, arith, le→leb, length}
use lib.Ieee.{in_float}
use Rattle.lists.proofs.{Rows.row-end, Grids.length_front}
use Rattle.dapc_scatter.proofs.{Adding.adding-none, Scatter.between-turn, Scatter.between-end}
use Rattle.dapc_scatter.proofs.add_between.Goals as goal

pub loop-j-init : goal.loop-j-init
loop-j-init c = let pre = c.requires in (adding-none _ _ _ _ _ _ pre.0, pre.1, pre.2)

pub int_to_float-n : goal.int_to_float-n
unfolding in_float
int_to_float-n c =
    le→leb c.entry-n.result (2 ^ 53)
    (omega (arith, c.entry-n.ensures, c.type_inv.counts c.loop-j.j))

pub subtract-requires : goal.subtract-requires
subtract-requires c =
    let row_fits-here : let a = c.args in c.loop-j.j * a.p + a.p ≤ length a.mu.now = omega (arith, row-end c.args.p _ _ c.loop-j-test.true) in
    let a = c.args in
    let wide = c.loop-j.invariant.1 in
    (length_front a.p c.loop-j.j a.p a.mu.now row_fits-here ∙ sym wide, c.requires.4 ∙ sym wide)

pub scale-requires : goal.scale-requires
scale-requires c = let inv = c.loop-j.invariant in c.subtract.auto.row ∙ inv.1 ∙ sym inv.2

pub add_outer-requires : goal.add_outer-requires
add_outer-requires c =
    let inv = c.loop-j.invariant in
    (inv.0.long, c.scale.auto.row ∙ inv.2, c.subtract.auto.row ∙ inv.1)

pub loop-j-preserved : goal.loop-j-preserved
loop-j-preserved c =
    let turn = c.loop-j in
    let a = c.args in (
      between-turn a.p (length a.counts.now) a.counts.now a.mu.now a.mean.now _ turn.sb turn.invariant.0 c.loop-j-test.true
          c.entry-n.ensures turn.invariant.1 c.subtract.ensures turn.invariant.2 c.scale.ensures
          c.add_outer.ensures,
      c.subtract.auto.row ∙ turn.invariant.1,
      c.scale.auto.row ∙ turn.invariant.2,
    )

pub returns : goal.returns
returns c =
    let a = c.args in between-end a.p (length a.counts.now) a.counts.now a.mu.now a.mean.now _
    c.loop-j.invariant.0 c.loop-j-test.false
