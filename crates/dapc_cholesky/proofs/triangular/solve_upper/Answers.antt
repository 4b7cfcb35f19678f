-- `dapc_cholesky::triangular::solve_upper` meets its contract. The unknowns from i on stand there.
use Rattle.lists.proofs.Base.{◌≡◌, refl, ap, ◌∙◌, List, ℕ, ◌+◌, ◌-◌, arith, length, set, length-set, length-replicate, Float}
use Rattle.float.specs.Floats.{zero⁺}
use Rattle.lists.specs.Loops.{in_turn}
use Rattle.lists.proofs.Loops.{down_to-none, down_to-next, down_to-all}
use Rattle.dapc_cholesky.specs.Triangular.{upper_at, solve_upper}
use Rattle.dapc_cholesky.proofs.triangular.solve_upper.Goals as goal

pub loop-i-init : goal.loop-i-init
loop-i-init c = let a = c.args in (refl, down_to-none (λ i y. set y i (upper_at a.p a.l.now a.b.now i y)) a.p a.x.now)

pub upper_at-v-requires : goal.upper_at-v-requires
upper_at-v-requires c = (c.requires.0, c.requires.1, c.loop-i.invariant.0 ∙ ap length c.requires.2 ∙ length-replicate c.args.p zero⁺, omega arith)

pub loop-i-preserved : goal.loop-i-preserved
loop-i-preserved c =
    let turn = c.loop-i in
    let a = c.args in
    let step : ℕ → List Float → List Float = λ i y. set y i (upper_at a.p a.l.now a.b.now i y) in
    let here : turn.i ≡ turn.i - 1 + 1 = omega arith in (
      simp length-set turn.invariant.0,
      down_to-next step a.p (turn.i - 1) a.x.now (omega arith)
          (turn.invariant.1 ∙ ap (λ (k : ℕ). in_turn (λ j. step (a.p - (j + 1))) (a.p - k) a.x.now) here)
          (ap (set turn.x (turn.i - 1)) c.upper_at-v.ensures),
    )

pub returns : goal.returns
unfolding solve_upper
returns c =
    let a = c.args in
    let step : ℕ → List Float → List Float = λ i y. set y i (upper_at a.p a.l.now a.b.now i y) in
    let done : c.loop-i.i ≡ 0 = omega arith in
    down_to-all step 0 a.p _ (c.loop-i.invariant.1 ∙ ap (λ (k : ℕ). in_turn (λ j. step (a.p - (j + 1))) (a.p - k) a.x.now) done
    ∙ ap (in_turn (λ j. step (a.p - (j + 1))) (a.p - 0)) c.requires.2)
