-- `exhaustive_ways::change` meets its contract. The label is given back, and the next that is left is placed.
use Rattle.lists.proofs.Base.{◌+◌, ◌≤◌, arith}
use Rattle.exhaustive_ways.specs.inner.Order.{Node}
use Rattle.exhaustive_ways.proofs.WayOrder.{given-node, given-within, given_below, changed, not-changed}
use Rattle.exhaustive_ways.proofs.change.Goals as goal

pub overflow_add-last : goal.overflow_add-last
overflow_add-last c =
    let node-here : let a = c.args in Node a.g a.ss.now c.give_back-last.new.counts a.way.now a.at = given-node c.args.at c.requires c.give_back-last.ensures.1 in
    let next-here : c.give_back-last.result + 1 ≤ c.args.g = omega (arith, c.give_back-last.ensures.0, given_below c.args.at c.requires c.give_back-last.ensures.1) in
    omega (arith, next-here, node-here.most)

pub next_label-requires : goal.next_label-requires
next_label-requires c =
    let node-here : let a = c.args in Node a.g a.ss.now c.give_back-last.new.counts a.way.now a.at = given-node c.args.at c.requires c.give_back-last.ensures.1 in
    let next-here : c.give_back-last.result + 1 ≤ c.args.g = omega (arith, c.give_back-last.ensures.0, given_below c.args.at c.requires c.give_back-last.ensures.1) in
    (node-here.rows, given-within c.args.at c.requires c.give_back-last.ensures.1, omega (arith, next-here))

pub put-requires : goal.put-requires
put-requires c =
    let node-here : let a = c.args in Node a.g a.ss.now c.give_back-last.new.counts a.way.now a.at = given-node c.args.at c.requires c.give_back-last.ensures.1 in (
      node-here,
      given-within c.args.at c.requires c.give_back-last.ensures.1,
      c.in-Some.ensures.0,
      c.in-Some.ensures.1.some c.in-Some.ensures.0,
    )

pub returns-in-Some : goal.returns-in-Some
returns-in-Some c =
    changed c.args.at c.requires c.give_back-last.ensures.1 (omega (arith, c.give_back-last.ensures.0)) c.in-Some.ensures.1 c.in-Some.ensures.0
    c.put.ensures.0 c.put.ensures.1

pub returns : goal.returns
returns c = not-changed c.args.at c.requires c.give_back-last.ensures.1 (omega (arith, c.give_back-last.ensures.0)) c.in_default.ensures (omega arith)
