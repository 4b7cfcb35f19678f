-- `lot::how_many` meets its contract. What is left to count and what is counted are all.
use Rattle.lists.proofs.Base.{zero-add, arith, eq-eqb, ne_eqb, eqb, get_or}
use Rattle.lists.specs.{Numbers.how_many}
use Rattle.lists.proofs.Filters.{count-here, count-later, count_none}
use Rattle.lot.proofs.how_many.Goals as goal
use Rattle.lot.proofs.how_many.Goals.{then-l-labels, else-l-labels}

pub loop-i-init : goal.loop-i-init
unfolding how_many
loop-i-init c = (omega arith, omega arith, zero-add _)

pub loop-i-preserved : goal.loop-i-preserved
loop-i-preserved c =
    let labels = c.args.labels.now in
    let i = c.loop-i.i in
    let l = c.args.l in
    elim c.if-l-labels.branch [
      | then-l-labels w ↦ (omega arith, omega arith, omega (arith, count-here (eqb l) labels i 0 c.loop-i-test.true (eq-eqb l (get_or labels i 0) w.if-l-labels.true)))
      | else-l-labels w ↦ (omega arith, omega arith, omega (arith, count-later (eqb l) labels i 0 c.loop-i-test.true (ne_eqb l (get_or labels i 0) w.if-l-labels.false)))
    ]

pub returns : goal.returns
returns c = omega (arith, count_none (eqb c.args.l) c.args.labels.now c.loop-i.i c.loop-i-test.false)
