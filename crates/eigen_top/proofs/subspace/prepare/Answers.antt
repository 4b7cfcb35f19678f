-- `eigen_top::subspace::prepare` meets its contract. The first block, and a bound by power steps on its first column.
use Rattle.lists.proofs.Base.{sym, ◌∙◌, arith, length-take-le}
use Rattle.eigen_top.proofs.BlockPairs.{shift_is}
use Rattle.eigen_top.proofs.subspace.prepare.Goals as goal

pub copy-requires : goal.copy-requires
copy-requires c = c.requires.2 ∙ sym (length-take-le _ _ (omega (arith, c.first_block.auto.q, c.requires.0, c.requires.4)))

pub returns : goal.returns
returns c =
    let a = c.args in
    (c.first_block.ensures, shift_is _ _ _ c.first_block.ensures c.copy.ensures c.power_bound.ensures)
