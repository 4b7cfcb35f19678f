-- `eigen_top::subspace::find_last_block` meets its contract. The rounds, started as they are.
use Rattle.lists.proofs.Base.{ap, ◌∙◌, arith, length, length-replicate}
use Rattle.float.specs.Floats.{zero⁺}
use Rattle.eigen_top.proofs.BlockPairs.{last-is}
use Rattle.eigen_top.proofs.subspace.find_last_block.Goals as goal

pub iterate-requires : goal.iterate-requires
iterate-requires c =
    let a = c.args in (
      c.prepare-shift.auto.q ∙ c.requires.q_len.0,
      c.matvec_block.auto.z ∙ c.prepare-shift.auto.z ∙ c.requires.q_len.1,
      omega (arith, ap length c.requires.q_len.2 ∙ length-replicate a.k zero⁺, c.requires.b_room.1),
      c.matvec_block.ensures,
    )

pub returns : goal.returns
returns c = (
  last-is _ _ _ _ c.prepare-shift.ensures.0 c.prepare-shift.ensures.1 c.requires.q_len.2 c.iterate.ensures.0,
  c.iterate.ensures.1,
)
