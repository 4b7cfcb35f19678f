-- `dapc_cholesky::factor_below` meets its contract. After j turns the first j entries of the row stand there.
use Rattle.lists.proofs.Base.{◌≡◌, refl, ap₂, ◌∙◌, ◌+◌, ◌*◌, arith, ne_eqb, length, set, length-set, Float}
use Rattle.float.specs.Floats.{◌⊘◌}
use Rattle.lists.proofs.{Loops.in_turn-none, Loops.in_turn-next}
use Rattle.dapc_cholesky.specs.Cholesky.{chol_entry}
use Rattle.dapc_cholesky.proofs.factor_below.Goals as goal

pub loop-j-init : goal.loop-j-init
loop-j-init c = (omega arith, refl, in_turn-none _ _)

pub reduce-s-requires : goal.reduce-s-requires
reduce-s-requires c =
    let long-here : length c.loop-j.l ≡ c.args.p * c.args.p = c.loop-j.invariant.1 ∙ c.requires.1 in
    (c.requires.0, long-here, c.requires.2, omega arith)

pub cell-d-requires : goal.cell-d-requires
cell-d-requires c =
    let long-here : length c.loop-j.l ≡ c.args.p * c.args.p = c.loop-j.invariant.1 ∙ c.requires.1 in
    (long-here, omega arith, omega arith)

pub loop-j-preserved : goal.loop-j-preserved
unfolding chol_entry
loop-j-preserved c =
    let turn = c.loop-j in
    let a = c.args in (
      omega arith,
      simp length-set turn.invariant.1,
      in_turn-next _ _ _ turn.invariant.2
          (rw (ne_eqb a.i turn.j (λ e. omega arith))
          (ap₂ (λ (s d : Float). set turn.l (a.i * a.p + turn.j) (s ⊘ d)) c.reduce-s.ensures c.cell-d.ensures)),
    )

pub returns : goal.returns
returns c = let e : c.loop-j.j ≡ c.args.i = omega arith in rw e at c.loop-j.invariant.2
