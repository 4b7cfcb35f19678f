-- `dapc_cholesky::triangular::solve_columns` meets its contract. After c turns the first c columns are solved.
use Rattle.lists.proofs.Base.{◌≡◌, ◌*◌, ap, ◌∙◌, length, length-replicate}
use Rattle.float.specs.Floats.{zero⁺}
use Rattle.lists.proofs.{Writes.filling-none, Writes.filling-next, Writes.filling-all, Grids.filling-blank}
use Rattle.dapc_cholesky.specs.Triangular.{solve_columns}
use Rattle.dapc_cholesky.proofs.SolvedLengths.{length-lower}
use Rattle.dapc_cholesky.proofs.triangular.solve_columns.Goals as goal

pub loop-c-init : goal.loop-c-init
loop-c-init c =
    let blank-long-here : length c.args.dst.now ≡ c.args.p * c.args.p = ap length c.requires.0 ∙ length-replicate (c.args.p * c.args.p) zero⁺ in
    filling-none _ _ _ (λ k. length-lower _ _ _) _ blank-long-here

pub solve_lower-requires : goal.solve_lower-requires
solve_lower-requires c =
    let pre = c.requires in
    let turn = c.loop-c in
    (pre.1, pre.2, filling-blank _ _ _ (λ k. length-lower _ _ _) _ zero⁺ turn.dst pre.0 turn.invariant c.loop-c-test.true, c.loop-c-test.true)

pub loop-c-preserved : goal.loop-c-preserved
loop-c-preserved c =
    let blank-long-here : length c.args.dst.now ≡ c.args.p * c.args.p = ap length c.requires.0 ∙ length-replicate (c.args.p * c.args.p) zero⁺ in
    filling-next _ _ _ (λ k. length-lower _ _ _) _ blank-long-here c.loop-c.invariant c.loop-c-test.true c.solve_lower.ensures

pub returns : goal.returns
unfolding solve_columns
returns c =
    let blank-long-here : length c.args.dst.now ≡ c.args.p * c.args.p = ap length c.requires.0 ∙ length-replicate (c.args.p * c.args.p) zero⁺ in
    filling-all _ _ _ (λ k. length-lower _ _ _) _ blank-long-here c.loop-c.invariant c.loop-c-test.false
