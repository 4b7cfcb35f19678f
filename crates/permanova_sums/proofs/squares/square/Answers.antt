-- `permanova_sums::squares::square` meets its contract. The places of the kept samples a and b are below n.
use Rattle.permanova_sums.specs.Squares.{square_at}
use Rattle.permanova_sums.proofs.squares.square.Goals as goal

pub cell-x-requires : goal.cell-x-requires
cell-x-requires c =
    let args = c.args in
    let pre = c.requires in
    (pre.0, pre.1 args.a pre.2, pre.1 args.b pre.3)

pub returns : goal.returns
unfolding square_at
returns c = rw c.cell-x.ensures
