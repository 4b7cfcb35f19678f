-- `permanova_sums::squares::fill_matrix` meets its contract. By any rule that f keeps to, the first a rows are filled.
use Rattle.lists.proofs.Base.{ap, ◌∙◌, ℕ, ◌+◌, ◌*◌, ◌≤◌, arith, length}
use Rattle.lists.specs.Ranges.{table, grid}
use Rattle.lists.proofs.{Ranges.length-table, Writes.filling-none, Writes.filling-next, Writes.filling-all}
use Rattle.lists.proofs.Rows.{row-end, length_part}
use Rattle.permanova_sums.proofs.squares.fill_matrix.Goals as goal

pub loop-a-init : goal.loop-a-init
loop-a-init g c = λ h keeps. filling-none _ _ (λ i. table c.args.m (h i)) (λ i. length-table _ _) _ c.requires.0

pub loop-a-preserved : goal.loop-a-preserved
loop-a-preserved g c = λ h keeps.
    let m = c.args.m in
    let a = c.loop-a.a in
    let so_far = c.loop-a.invariant h keeps in
    let row_fits : a * m + m ≤ length c.loop-a.t = omega (arith, row-end m _ _ c.loop-a-test.true, so_far.long, c.requires.0) in
    let long = length_part m a c.loop-a.t row_fits in
    filling-next _ _ (λ i. table m (h i)) (λ i. length-table _ _) _ c.requires.0 so_far c.loop-a-test.true
    (c.fill_row.ensures (h a) (λ b x k p. keeps a b x c.loop-a-test.true (omega (arith, k, long)) p) ∙ ap (λ (k : ℕ). table k (h a)) long)

pub returns : goal.returns
unfolding grid
returns g c = λ h keeps. filling-all _ _ (λ i. table c.args.m (h i)) (λ i. length-table _ _) _ c.requires.0 (c.loop-a.invariant h keeps) c.loop-a-test.false
