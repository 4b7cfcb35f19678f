-- `lot_design::strata::fill_named` meets its contract. The strata of the samples passed are named.
use Rattle.lists.proofs.Base.{refl, ap, ◌∙◌, arith, take_all}
use Rattle.lot.specs.{Strata.named}
use Rattle.lot.proofs.{FilledFronts.filled-as, Numbering.naming-none, Numbering.naming-room, Numbering.naming-turn}
use Rattle.lot_design.proofs.strata.fill_named.Goals as goal

pub loop-s-init : goal.loop-s-init
loop-s-init c = (omega arith, refl, naming-none c.args.held.now _)

pub note-k-requires : goal.note-k-requires
note-k-requires c = omega (arith, naming-room c.args.held.now c.args.ns.now c.loop-s.s-index (omega arith) c.loop-s.invariant.2)

pub loop-s-preserved : goal.loop-s-preserved
loop-s-preserved c = (
  omega arith,
  c.note-k.auto.ns ∙ c.loop-s.invariant.1,
  naming-turn _ _ _ c.loop-s-test.true c.loop-s.invariant.2 c.note-k.ensures,
)

pub shape_of-ns : goal.shape_of-ns
shape_of-ns c = c.loop-s.invariant.1

pub returns : goal.returns
returns c = filled-as _ (ap named (take_all _ _ c.loop-s-test.false)) c.loop-s.invariant.2
