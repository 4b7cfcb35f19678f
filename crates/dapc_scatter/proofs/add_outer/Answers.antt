-- `dapc_scatter::add_outer` meets its contract. After a turns the first a rows are added to.
use Rattle.lists.proofs.Base.{◌≡◌, ◌*◌, ◌+◌, ◌≤◌, refl, sym, ◌∙◌, arith, length, get_or, nan}
use Rattle.float.specs.Floats.{◌⊕◌, ◌⊗◌}
use Rattle.lists.proofs.Rows.{row-end, length_part}
use Rattle.dapc_scatter.proofs.InPlace.{reworked-none, reworked-row, reworked-all}
use Rattle.dapc_scatter.proofs.add_outer.Goals as goal

pub loop-a-init : goal.loop-a-init
loop-a-init c = reworked-none _ _ _ _ c.requires.0

pub add_multiple-requires : goal.add_multiple-requires
add_multiple-requires c =
    let row_fits-here : let a = c.args in (c.loop-a.a * a.p + a.p ≤ length c.loop-a.m) × (length c.loop-a.m ≡ length a.m.now) = let long = c.loop-a.invariant.long in
    (omega (arith, row-end c.args.p _ _ c.loop-a-test.true, long), long) in
    c.requires.2 ∙ sym (length_part c.args.p c.loop-a.a c.loop-a.m row_fits-here.0)

pub loop-a-preserved : goal.loop-a-preserved
loop-a-preserved c =
    let turn = c.loop-a in
    let a = c.args in
    reworked-row _ _ _ _ turn.m _ (λ i v. v ⊕ get_or a.s.now turn.a nan ⊗ get_or a.d.now i nan) c.requires.0 turn.invariant
    c.loop-a-test.true c.add_multiple.ensures (λ i _. refl)

pub returns : goal.returns
returns c = reworked-all _ _ _ _ c.requires.0 c.loop-a.invariant c.loop-a-test.false
