-- `lot_design::kept::groups::place` meets its contract. The groups of the samples passed are put.
use Rattle.lists.proofs.Base.{◌≡◌, refl, ap, ap₂, ◌∙◌, ℕ, arith, length, set, length-set}
use Rattle.std.proofs.lemmas.List.{length_push}
use Rattle.std.proofs.lemmas.Slice.Zip.{zip_turn, zip_end}
use Rattle.lists.specs.Loops.{in_turn}
use Rattle.lists.proofs.Loops.{in_turn-none, in_turn-next}
use Rattle.lot_design.proofs.LoopTurns.{turned}
use Rattle.lot_design.proofs.kept.groups.place.Goals as goal

pub loop-i-init : goal.loop-i-init
loop-i-init c = (refl, in_turn-none _ _)

pub bounds-each-i : goal.bounds-each-i
bounds-each-i c =
    let a = c.args in
    let t = zip_turn a.ks.now a.gs.now c.loop-i.yielded c.into_iter-i-iterator.result c.loop-i.i-iterator c.next.new.self _ (cc) (cc) c.loop-i.yielded_by _ c.in-Some.is c.next.ensures.steps in
    omega (arith, t.2 0, c.requires.1 (length c.loop-i.yielded) t.0, c.loop-i.invariant.0)

pub loop-i-preserved : goal.loop-i-preserved
loop-i-preserved c =
    let a = c.args in
    let t = zip_turn a.ks.now a.gs.now c.loop-i.yielded c.into_iter-i-iterator.result c.loop-i.i-iterator c.next.new.self _ (cc) (cc) c.loop-i.yielded_by _ c.in-Some.is c.next.ensures.steps in
    let more = length_push c.loop-i.yielded (c.in-Some.i, c.in-Some.g) in (
      length-set c.loop-i.each _ _ ∙ c.loop-i.invariant.0,
      rw more (in_turn-next (turned a.ks.now a.gs.now) (length c.loop-i.yielded) a.each.now c.loop-i.invariant.1 (ap₂ (set c.loop-i.each) (t.2 0) (t.3 0))),
    )

pub shape_of-each : goal.shape_of-each
shape_of-each c = c.loop-i.invariant.0

pub returns : goal.returns
returns c =
    let a = c.args in
    let t = zip_end a.ks.now a.gs.now c.loop-i.yielded c.into_iter-i-iterator.result c.loop-i.i-iterator c.next.new.self _ (cc) (cc) c.loop-i.yielded_by c.in-None.is c.next.ensures.steps in
    let e : length c.loop-i.yielded ≡ length a.ks.now = omega (arith, t, c.requires.0) in
    c.loop-i.invariant.1 ∙ ap (λ (k : ℕ). in_turn (turned a.ks.now a.gs.now) k a.each.now) e
