-- `lot_design::strata::stratify` meets its contract. With strata they are gathered and numbered, and without all are 0.
use Rattle.lists.proofs.Base.{refl}
use Rattle.lists.specs.Writes.{cleared}
use Rattle.lot.specs.Given.{held_by}
use Rattle.lot.proofs.Numbering.{stratified-numbered, stratified-one}
use Rattle.lot_design.proofs.strata.stratify.Goals as goal

pub returns-in-Some : goal.returns-in-Some
returns-in-Some c = stratified-numbered (held_by c.args.given) _ _ (rw c.in-Some.is refl) (rw c.in-Some.is c.gather.ensures) c.number.ensures.0 c.number.ensures.1

pub returns-in-None : goal.returns-in-None
unfolding cleared
returns-in-None c = stratified-one (held_by c.args.given) _ _ (rw c.in-None.is refl) c.requires.2 (c.fill.ensures.after (λ _ e. e))
