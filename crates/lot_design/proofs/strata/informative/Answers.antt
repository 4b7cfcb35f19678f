-- `lot_design::strata::informative` meets its contract. What is left to count and what is counted are all.
use Rattle.lists.proofs.Base.{◌≡◌, sym, ap, ◌∙◌, ◌+◌, ◌-◌, zero-add, arith, length}
use Rattle.lists.proofs.Filters.{range-count-yes, range-count-no, range-count-none}
use Rattle.lot.specs.Strata.{informative}
use Rattle.lot_design.specs.inner.Told.{Told}
use Rattle.lot_design.proofs.strata.informative.Goals as goal
use Rattle.lot_design.proofs.strata.informative.Goals.{then-told, else-told}
use Rattle.lot_design.proofs.LoopTurns.{at}

pub loop-k-init : goal.loop-k-init
unfolding informative
loop-k-init c = (omega arith, omega arith, zero-add _, λ h. absurd (omega arith))

pub informs_too-told-requires : goal.informs_too-told-requires
informs_too-told-requires c = (c.requires, c.loop-k-test.true, c.loop-k.invariant.3)

pub loop-k-preserved : goal.loop-k-preserved
loop-k-preserved c =
    let ss = c.args.ss.now in
    let gs = c.args.gs.now in
    let k = c.loop-k.k in
    let less = c.loop-k-test.true in
    let same : k ≡ k + 1 - 1 = omega arith in
    let next : Told ss gs (k + 1) c.informs_too-told.result = λ h. c.informs_too-told.ensures ∙ ap (at ss gs) same in
    elim c.if-told.branch [
      | then-told w ↦ (omega arith, omega arith, omega (arith, range-count-yes (at ss gs) k (length ss) less (sym c.informs_too-told.ensures ∙ w.if-told.true)), next)
      | else-told w ↦ (omega arith, omega arith, omega (arith, range-count-no (at ss gs) k (length ss) less (sym c.informs_too-told.ensures ∙ w.if-told.false)), next)
    ]

pub returns : goal.returns
returns c =
    let args = c.args in
    omega (arith, range-count-none (at args.ss.now args.gs.now) c.loop-k.k (length args.ss.now) c.loop-k-test.false)
