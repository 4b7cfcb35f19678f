-- `dapc_cholesky::triangular::solve_rows` meets its contract. After c turns the first c rows are solved.
use Rattle.lists.proofs.Base.{◌≡◌, ◌+◌, ◌≤◌, ◌*◌, ap, ◌∙◌, arith, length, length-replicate}
use Rattle.float.specs.Floats.{zero⁺}
use Rattle.lists.proofs.{Rows.row-end, Rows.length_part, Rows.part-row, Writes.filling-none, Writes.filling-next, Writes.filling-all}
use Rattle.dapc_cholesky.specs.Triangular.{solve_upper, solve_rows}
use Rattle.lists.proofs.Grids.{filling-blank}
use Rattle.dapc_cholesky.proofs.SolvedLengths.{length-upper}
use Rattle.dapc_cholesky.proofs.triangular.solve_rows.Goals as goal

pub loop-c-init : goal.loop-c-init
loop-c-init c =
    let blank-long-here : length c.args.dst.now ≡ c.args.k * c.args.p = ap length c.requires.0 ∙ length-replicate (c.args.k * c.args.p) zero⁺ in
    filling-none _ _ _ (λ k. length-upper _ _ _) _ blank-long-here

pub solve_upper-requires : goal.solve_upper-requires
solve_upper-requires c =
    let blank-long-here : length c.args.dst.now ≡ c.args.k * c.args.p = ap length c.requires.0 ∙ length-replicate (c.args.k * c.args.p) zero⁺ in
    let rows_fit-here : let a = c.args in (c.loop-c.c * a.p + a.p ≤ length c.loop-c.dst) × (length c.loop-c.dst ≡ length a.dst.now) × (c.loop-c.c * a.p + a.p ≤ length a.b.now) = let a = c.args in
    let turn = c.loop-c in (
      omega (arith, row-end a.p _ _ c.loop-c-test.true, turn.invariant.long, blank-long-here),
      turn.invariant.long,
      omega (arith, row-end a.p turn.c a.p (omega arith)),
    ) in
    let turn = c.loop-c in (
      c.requires.1,
      length_part c.args.p turn.c c.args.b.now rows_fit-here.2,
      filling-blank _ _ _ (λ k. length-upper _ _ _) _ zero⁺ turn.dst c.requires.0 turn.invariant c.loop-c-test.true,
    )

pub loop-c-preserved : goal.loop-c-preserved
loop-c-preserved c =
    let blank-long-here : length c.args.dst.now ≡ c.args.k * c.args.p = ap length c.requires.0 ∙ length-replicate (c.args.k * c.args.p) zero⁺ in
    let a = c.args in
    filling-next _ _ _ (λ k. length-upper _ _ _) _ blank-long-here c.loop-c.invariant c.loop-c-test.true
    (c.solve_upper.ensures ∙ ap (solve_upper a.p a.l.now) (part-row a.p c.loop-c.c a.b.now))

pub returns : goal.returns
unfolding solve_rows
returns c =
    let blank-long-here : length c.args.dst.now ≡ c.args.k * c.args.p = ap length c.requires.0 ∙ length-replicate (c.args.k * c.args.p) zero⁺ in
    filling-all _ _ _ (λ k. length-upper _ _ _) _ blank-long-here c.loop-c.invariant c.loop-c-test.false
