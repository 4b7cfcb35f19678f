-- `permanova_dispersion::inside` meets its contract. The rows of ordered pairs from a's place on, added to s, are always the whole sum.
use Rattle.lists.proofs.Base.{refl, arith}
use Rattle.lists.specs.Rows.{entry}
use Rattle.lists.proofs.Sums.{ordered-turn, ordered_end}
use Rattle.permanova_dispersion.specs.Dispersion.{inside}
use Rattle.permanova_dispersion.proofs.inside.Goals as goal

pub loop-a-init : goal.loop-a-init
unfolding inside
loop-a-init c = refl

pub sum_entries-s-requires : goal.sum_entries-s-requires
sum_entries-s-requires c = let pre = c.requires in (pre.0, pre.1, pre.1 c.loop-a.a-index c.loop-a-test.true)

pub loop-a-preserved : goal.loop-a-preserved
loop-a-preserved c =
    let turn = c.loop-a in
    let a = c.args in
    ordered-turn (entry a.m a.t.now) _ a.mem.now a.mem.now turn.a-index 0 (omega arith) c.sum_entries-s.ensures turn.invariant

pub returns : goal.returns
returns c =
    let a = c.args in
    ordered_end (entry a.m a.t.now) _ a.mem.now a.mem.now c.loop-a.a-index (omega arith) c.loop-a.invariant
