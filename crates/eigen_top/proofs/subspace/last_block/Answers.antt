-- `eigen_top::subspace::last_block` meets its contract. Room of its own, the values before the first round zero.
use Rattle.lists.proofs.Base.{arith, length-take-le}
use Rattle.lists.proofs.Parts.{take-replicate}
use Rattle.float.specs.Floats.{zero⁺}
use Rattle.eigen_top.proofs.subspace.last_block.Goals as goal

pub find_last_block-requires : goal.find_last_block-requires
find_last_block-requires c =
    record {
      q_len = (
        c.requires.0,
        c.requires.1,
        take-replicate _ 16 zero⁺ c.requires.5,
        length-take-le _ _ (omega (arith, c.requires.4)),
        length-take-le _ _ (omega (arith, c.requires.4)),
      );
      b_room = (c.requires.2, c.requires.3);
    }
