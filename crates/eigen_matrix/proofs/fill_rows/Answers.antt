-- `eigen_matrix::fill_rows` meets its contract. By any rule that f keeps to, the first i rows are filled.
use Rattle.lists.proofs.Base.{◌+◌, ◌*◌, ◌≤◌, arith, length}
use Rattle.lists.proofs.{Rows.row-end, Rows.length_part, Writes.filling-none, Writes.filling-next, Writes.filling-all}
use Rattle.eigen_matrix.proofs.fill_rows.Goals as goal

pub loop-i-init : goal.loop-i-init
loop-i-init g c = λ h each keeps. filling-none _ _ _ each _ c.requires.size

pub loop-i-preserved : goal.loop-i-preserved
loop-i-preserved g c =
    let w = c.args.w in
    let at = c.loop-i in
    let within : at.i * w + w ≤ length at.m = omega (arith, row-end w at.i c.args.n c.loop-i-test.true, c.requires.size) in
    λ h each keeps.
    filling-next _ _ _ each _ c.requires.size (at.invariant h each keeps) c.loop-i-test.true
    (keeps _ _ _ c.loop-i-test.true (length_part w at.i at.m within) c.f.ensures)

pub returns : goal.returns
returns g c = λ h each keeps. filling-all _ _ _ each _ c.requires.size (c.loop-i.invariant h each keeps) c.loop-i-test.false
