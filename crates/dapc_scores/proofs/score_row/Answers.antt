-- `dapc_scores::score_row` meets its contract. After a turns the first a scores stand there.
use Rattle.lists.proofs.Base.{◌*◌, ◌+◌, ◌≤◌, sym, ◌∙◌, arith, length}
use Rattle.lists.proofs.{Rows.row-end, Rows.length_part, Writes.writing-none, Writes.writing-next, Writes.writing-all}
use Rattle.dapc_scores.proofs.Scoring.{dot-part}
use Rattle.dapc_scores.proofs.score_row.Goals as goal

pub loop-a-init : goal.loop-a-init
loop-a-init c = writing-none _ _

pub dot-requires : goal.dot-requires
dot-requires c =
    let a = c.args in
    let fits : c.loop-a.a * a.p + a.p ≤ length a.vs.now = omega (arith, row-end a.p _ _ c.loop-a-test.true) in
    c.requires.0 ∙ sym (length_part a.p c.loop-a.a a.vs.now fits)

pub loop-a-preserved : goal.loop-a-preserved
loop-a-preserved c =
    let a = c.args in
    let fits : c.loop-a.a * a.p + a.p ≤ length a.vs.now = omega (arith, row-end a.p _ _ c.loop-a-test.true) in
    writing-next _ _ c.loop-a.invariant c.loop-a-test.true
    (c.dot.ensures ∙ dot-part a.p a.d.now a.vs.now c.loop-a.a c.requires.0 (length_part a.p c.loop-a.a a.vs.now fits ∙ sym c.requires.0))

pub returns : goal.returns
returns c = writing-all _ _ c.loop-a.invariant c.loop-a-test.false
