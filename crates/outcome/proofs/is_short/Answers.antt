-- `outcome::is_short` meets its contract. What is left of both decides.
use Rattle.lists.proofs.Base.{◌∙◌, ⊎_elim, inl, inr}
use Rattle.outcome.proofs.Lengths.{short-here, short-later, short-end}
use Rattle.outcome.proofs.is_short.Goals as goal

pub loop-has-init : goal.loop-has-init
loop-has-init c = cc

pub returns-then-has-least : goal.returns-then-has-least
returns-then-has-least c =
    let turn = c.in-Some.ensures.steps in
    short-here turn.0 turn.1 c.if-has-least.true ∙ c.loop-has.invariant

pub loop-has-preserved : goal.loop-has-preserved
loop-has-preserved c =
    let turn = c.in-Some.ensures.steps in
    short-later turn.0 turn.1 c.if-has-least.false ∙ c.loop-has.invariant

pub returns : goal.returns
returns c = short-end _ _ (⊎_elim (λ l. inl l.1.0) (λ r. inr r.1.0) c.in-None.ensures.steps) ∙ c.loop-has.invariant
