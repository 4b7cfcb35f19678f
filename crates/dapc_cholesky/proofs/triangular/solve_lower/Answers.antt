-- `dapc_cholesky::triangular::solve_lower` meets its contract. After i turns the first i unknowns stand there.
use Rattle.lists.proofs.Base.{◌≡◌, refl, ap, ◌∙◌, arith, length, set, length-set, length-replicate}
use Rattle.float.specs.Floats.{zero⁺}
use Rattle.lists.specs.{Loops.in_turn}
use Rattle.lists.proofs.Loops.{in_turn-none, in_turn-next}
use Rattle.dapc_cholesky.specs.Triangular.{solve_lower}
use Rattle.dapc_cholesky.proofs.triangular.solve_lower.Goals as goal

pub loop-i-init : goal.loop-i-init
loop-i-init c = (omega arith, refl, in_turn-none _ _)

pub lower_at-v-requires : goal.lower_at-v-requires
lower_at-v-requires c =
    let long-here : length c.loop-i.x ≡ c.args.p = c.loop-i.invariant.1 ∙ ap length c.requires.2 ∙ length-replicate c.args.p zero⁺ in
    let pre = c.requires in (pre.0, pre.1, long-here, pre.3, c.loop-i-test.true)

pub loop-i-preserved : goal.loop-i-preserved
loop-i-preserved c =
    let turn = c.loop-i in
    (omega arith, simp length-set turn.invariant.1, in_turn-next _ _ _ turn.invariant.2 (ap (set turn.x turn.i) c.lower_at-v.ensures))

pub returns : goal.returns
unfolding solve_lower
returns c =
    let e : c.loop-i.i ≡ c.args.p = omega arith in
    (rw e at c.loop-i.invariant.2) ∙ ap (in_turn _ c.args.p) c.requires.2
