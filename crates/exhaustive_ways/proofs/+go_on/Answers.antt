-- The cycle of calls {go_on}. The rest go on, or sample `at` has a later label and the rest begin anew.
use Rattle.exhaustive_ways.proofs.WayOrder.{gone-all, gone-rest, gone-back, gone-node, gone-later, gone-none}
use Rattle.exhaustive_ways.proofs.+go_on.Goals as goal

pub returns-then-at-ss : goal.returns-then-at-ss
returns-then-at-ss t c = gone-all c.requires.0 c.if-at-ss.true

pub returns-then-go_on : goal.returns-then-go_on
returns-then-go_on t c =
    let a = c.args in
    gone-rest a.g a.ss.now _ _ a.at _ c.go_on.ensures c.if-go_on.true

pub change-requires : goal.change-requires
change-requires t c =
    let a = c.args in
    let beyond = gone-back a.g a.ss.now _ _ a.at _ c.go_on.ensures c.if-go_on.false in
    beyond.node

pub fill-requires : goal.fill-requires
fill-requires t c =
    let a = c.args in
    let beyond = gone-back a.g a.ss.now _ _ a.at _ c.go_on.ensures c.if-go_on.false in
    gone-node a.g a.ss.now _ _ _ _ a.at beyond c.change.ensures c.if-change.true

pub returns-then-change : goal.returns-then-change
returns-then-change t c =
    let a = c.args in
    let beyond = gone-back a.g a.ss.now _ _ a.at _ c.go_on.ensures c.if-go_on.false in
    gone-later a.g a.ss.now _ _ _ _ a.at beyond c.change.ensures c.if-change.true c.fill.ensures

pub returns : goal.returns
returns t c =
    let a = c.args in
    let beyond = gone-back a.g a.ss.now _ _ a.at _ c.go_on.ensures c.if-go_on.false in
    gone-none a.g a.ss.now _ _ _ _ a.at beyond c.change.ensures c.if-change.false
