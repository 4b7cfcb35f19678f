-- The cycle of calls {fill}. A label is placed on one sample, and the rest are filled.
use Rattle.lists.proofs.Base.{arith}
use Rattle.exhaustive_ways.proofs.WayOrder.{found, label-some, fill_done, fill-node, fill_more}
use Rattle.exhaustive_ways.proofs.+fill.Goals as goal

pub unwrap-j-requires : goal.unwrap-j-requires
unwrap-j-requires t c = label-some c.requires c.if-at-ss.true _ c.next_label.result c.next_label.ensures

pub put-requires : goal.put-requires
put-requires t c =
    let there = found _ _ c.unwrap-j.ensures c.next_label.ensures in
    (c.requires, c.if-at-ss.true, there.0, there.1.some there.0)

pub fill-requires : goal.fill-requires
fill-requires t c =
    let there = found _ _ c.unwrap-j.ensures c.next_label.ensures in
    (omega (arith, c.decreases, c.if-at-ss.true), fill-node c.requires c.if-at-ss.true there.1 (omega arith) c.put.ensures.0 c.put.ensures.1)

pub returns-then-at-ss : goal.returns-then-at-ss
returns-then-at-ss t c =
    let there = found _ _ c.unwrap-j.ensures c.next_label.ensures in
    fill_more c.requires c.if-at-ss.true there.1 (omega arith) c.put.ensures.0 c.put.ensures.1 c.fill.ensures

pub returns-else-at-ss : goal.returns-else-at-ss
returns-else-at-ss t c = fill_done c.requires c.if-at-ss.false
