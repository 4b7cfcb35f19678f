-- `lot_checks::misfits` meets its contract. Each answer is what the tests that led there give.
use Rattle.lists.proofs.Base.{◌≡◌, sym, ◌∙◌, true, ◌*◌, eq-eqb, ne_eqb, eqb, length}
use Rattle.lot.specs.Lines.{misfits}
use Rattle.lot_checks.proofs.misfits.Goals as goal
use Rattle.lot_checks.proofs.misfits.Goals.{Else-not-is_square}

squared : (c : Else-not-is_square) → eqb (length c.args.lot.distances.now) (c.args.lot.n * c.args.lot.n) ≡ true
squared c = sym c.is_square.ensures ∙ c.if-not-is_square.false

pub returns-then-not-is_square : goal.returns-then-not-is_square
unfolding misfits
returns-then-not-is_square c = rw (sym c.is_square.ensures ∙ c.if-not-is_square.true)

pub returns-then-lot-n : goal.returns-then-lot-n
unfolding misfits
returns-then-lot-n c = rw (squared ((goal.at.returns-then-lot-n c).Else-not-is_square), ne_eqb _ _ c.if-lot-n.true)

pub returns-then-unfit : goal.returns-then-unfit
unfolding misfits
returns-then-unfit c =
    rw (squared ((goal.at.returns-then-unfit c).Else-not-is_square), eq-eqb _ _ c.if-lot-n.false, sym c.unfit.ensures ∙ c.if-unfit.true)

pub returns-then-unfit-2 : goal.returns-then-unfit-2
unfolding misfits
returns-then-unfit-2 c =
    rw (squared ((goal.at.returns-then-unfit-2 c).Else-not-is_square), eq-eqb _ _ c.if-lot-n.false, sym c.unfit.ensures ∙ c.if-unfit.false, sym c.unfit-2.ensures ∙ c.if-unfit-2.true)

pub returns : goal.returns
unfolding misfits
returns c =
    rw (squared ((goal.at.returns c).Else-not-is_square), eq-eqb _ _ c.if-lot-n.false, sym c.unfit.ensures ∙ c.if-unfit.false, sym c.unfit-2.ensures ∙ c.if-unfit-2.false)
