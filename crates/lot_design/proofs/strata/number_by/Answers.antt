-- `lot_design::strata::number_by` meets its contract. After k turns the first k samples have their numbers.
use Rattle.lists.proofs.Base.{ap, arith, eqb, length, get_or}
use Rattle.lists.specs.Numbers.{position}
use Rattle.lists.proofs.Searches.{first-within}
use Rattle.lot.proofs.Numbering.{length-named, numbering-none, next_fits, numbering-alone, numbering-named, numbering-all, numbering-count}
use Rattle.lot_design.proofs.strata.number_by.Goals as goal
use Rattle.lot_design.proofs.strata.number_by.Goals.{then-s, else-s}

pub loop-k-init : goal.loop-k-init
loop-k-init c = numbering-none _ _

pub offset_bounds-held-k : goal.offset_bounds-held-k
offset_bounds-held-k c = omega (arith, c.loop-k.invariant.written.long)

pub bounds-held-k : goal.bounds-held-k
bounds-held-k c = omega (arith, c.loop-k.invariant.written.long)

pub overflow_cast-held : goal.overflow_cast-held
overflow_cast-held c =
    let ns = c.args.ns.now in
    let held = c.args.held.now in
    omega (arith, next_fits held ns c.loop-k.invariant c.loop-k-test.true, ap length c.requires.0, length-named held)

pub offset_bounds-held-k-then-s : goal.offset_bounds-held-k-then-s
offset_bounds-held-k-then-s c = omega (arith, c.loop-k.invariant.written.long)

pub bounds-held-k-then-s : goal.bounds-held-k-then-s
bounds-held-k-then-s c = omega (arith, c.loop-k.invariant.written.long)

pub overflow_add-next : goal.overflow_add-next
overflow_add-next c =
    let ns = c.args.ns.now in
    let held = c.args.held.now in
    omega (arith, next_fits held ns c.loop-k.invariant c.loop-k-test.true, ap length c.requires.0, length-named held)

pub overflow_cast-held-else-s : goal.overflow_cast-held-else-s
unfolding position
overflow_cast-held-else-s c =
    let ns = c.args.ns.now in
    let held = c.args.held.now in
    omega (arith, c.place_of.ensures, first-within (eqb (get_or c.loop-k.held c.loop-k.k 0)) ns, ap length c.requires.0, length-named held)

pub offset_bounds-held-k-else-s : goal.offset_bounds-held-k-else-s
offset_bounds-held-k-else-s c = omega (arith, c.loop-k.invariant.written.long)

pub bounds-held-k-else-s : goal.bounds-held-k-else-s
bounds-held-k-else-s c = omega (arith, c.loop-k.invariant.written.long)

pub loop-k-preserved : goal.loop-k-preserved
loop-k-preserved c =
    elim c.if-s.branch [
      | then-s w ↦ numbering-alone _ _ c.loop-k.invariant c.loop-k-test.true w.if-s.true w.held-is w.next-is
      | else-s w ↦ numbering-named c.args.held.now c.args.ns.now c.loop-k.invariant c.loop-k-test.true w.if-s.false w.place_of.ensures w.held-is w.next-is
    ]

pub shape_of-held : goal.shape_of-held
shape_of-held c = c.loop-k.invariant.written.long

pub returns : goal.returns
returns c = (
  numbering-all _ _ c.loop-k.invariant c.loop-k-test.false c.requires.0,
  numbering-count _ _ c.loop-k.invariant c.loop-k-test.false c.requires.0,
)
