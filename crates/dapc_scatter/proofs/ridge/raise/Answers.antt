-- `dapc_scatter::ridge::raise` meets its contract. After a turns the first a are raised.
use Rattle.lists.proofs.Base.{ℕ, refl, sym, ap, ◌∙◌, Bool, cond, eq-eqb, ne_eqb, Float}
use Rattle.float.specs.Floats.{◌⊕◌}
use Rattle.lists.specs.Rows.{entry}
use Rattle.dapc_scatter.proofs.InPlace.{reworked-entry, reworked-none, reworked-diagonal, reworked-all}
use Rattle.dapc_scatter.proofs.ridge.raise.Goals as goal

pub loop-a-init : goal.loop-a-init
loop-a-init c = reworked-none _ _ _ _ c.requires

pub loop-a-preserved : goal.loop-a-preserved
unfolding entry
loop-a-preserved c =
    let turn = c.loop-a in
    let more = c.loop-a-test.true in
    let old : ℕ → Float = entry c.args.p c.args.sw.now turn.a in
    reworked-diagonal _ _ _ _ turn.sw _ c.requires turn.invariant more more
    (ap (λ (v : Float). v ⊕ c.args.r) (reworked-entry _ _ _ _ turn.sw turn.invariant turn.a more)
    ∙ ap (λ (b : Bool). cond b (old turn.a ⊕ c.args.r) (old turn.a)) (sym (eq-eqb turn.a turn.a refl)))
    (λ i ne _. ap (λ (b : Bool). cond b (old i ⊕ c.args.r) (old i)) (sym (ne_eqb turn.a i (λ e. ne (sym e)))))

pub returns : goal.returns
returns c = reworked-all _ _ _ _ c.requires c.loop-a.invariant c.loop-a-test.false
