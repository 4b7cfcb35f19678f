-- `ordination_hashes::columns::below` meets its contract: the numbers before lo are below h, and those `left` places on are not.
use Rattle.lists.proofs.Base.{◌-◌, ◌/◌, arith, ltb-true, ltb-false}
use Rattle.ordination_hashes.proofs.Lookup.{narrowed-first, narrowed-next, narrowed-all}
use Rattle.ordination_hashes.proofs.columns.below.Goals as goal

pub loop-left-init : goal.loop-left-init
loop-left-init c = narrowed-first _ _ c.requires.climbs.0 _ _ c.requires.climbs.1 c.requires.climbs.2 c.requires.from_bound.0 c.requires.from_bound.1

pub overflow_add-lo : goal.overflow_add-lo
overflow_add-lo c = omega (arith, c.loop-left.invariant.most)

pub overflow_sub-lo : goal.overflow_sub-lo
overflow_sub-lo c = omega (arith, c.loop-left.invariant.most)

pub offset_bounds-hashes-lo : goal.offset_bounds-hashes-lo
offset_bounds-hashes-lo c = omega (arith, c.loop-left.invariant.most)

pub bounds-hashes-lo : goal.bounds-hashes-lo
bounds-hashes-lo c = omega (arith, c.loop-left.invariant.most)

pub overflow_add-lo-in-loop-left : goal.overflow_add-lo-in-loop-left
overflow_add-lo-in-loop-left c =
    let left = c.loop-left.left in
    let next = narrowed-next _ _ c.requires.climbs.0 c.loop-left.invariant (left - left / 2) (left / 2) (omega arith) (omega arith) (omega arith) _ c.only_if-lo.ensures
    (λ e. omega (arith, ltb-true)) (λ e. omega (arith, ltb-false)) in
    omega (arith, next.inside, next.most)

pub loop-left-preserved : goal.loop-left-preserved
loop-left-preserved c =
    narrowed-next _ _ c.requires.climbs.0 c.loop-left.invariant _ _ (omega arith) (omega arith) (omega arith) _ c.only_if-lo.ensures
    (λ e. omega (arith, ltb-true)) (λ e. omega (arith, ltb-false))

pub returns : goal.returns
returns c = narrowed-all _ _ c.loop-left.invariant (omega arith)
