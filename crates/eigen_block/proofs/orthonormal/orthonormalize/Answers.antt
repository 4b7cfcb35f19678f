-- `eigen_block::orthonormal::orthonormalize` meets its contract. The invariant: the first j columns stand in q.
use Rattle.lists.proofs.Base.{arith}
use Rattle.lists.proofs.Rows.{row-end}
use Rattle.eigen_block.proofs.Columns.{standing-none, standing-next, standing-all}
use Rattle.eigen_block.proofs.orthonormal.orthonormalize.Goals as goal

pub loop-j-init : goal.loop-j-init
loop-j-init c = standing-none c.args.n c.args.b (c.args.z.now) (c.args.q.now) c.requires.0 c.requires.1

pub orthonormalize_column-requires : goal.orthonormalize_column-requires
orthonormalize_column-requires c =
    let a = c.args in
    let e = row-end a.n c.loop-j.j a.b c.loop-j-test.true in
    (omega (arith, e), omega (arith, e))

pub loop-j-preserved : goal.loop-j-preserved
loop-j-preserved c =
    let a = c.args in
    let column = c.orthonormalize_column.ensures in
    standing-next a.n a.b (a.z.now) c.loop-j.invariant (omega arith) column.0 column.1

pub returns : goal.returns
returns c = let a = c.args in standing-all a.n a.b (a.z.now) c.loop-j.invariant (omega arith)
