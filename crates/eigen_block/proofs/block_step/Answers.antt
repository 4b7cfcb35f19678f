-- `eigen_block::block_step` meets its contract. The shift added to the product held, Gram-Schmidt, and the product anew.
use Rattle.lists.proofs.Base.{sym, ap, ◌∙◌, List, Float, nan}
use Rattle.float.specs.Floats.{◌⊕◌, ◌⊗◌}
use Rattle.lists.proofs.Zips.{zip-table}
use Rattle.eigen_vectors.specs.Vectors.{plus_times}
use Rattle.eigen_block.specs.{Orthonormal.orthonormal, Rounds.block_step}
use Rattle.eigen_block.proofs.block_step.Goals as goal

pub returns : goal.returns
unfolding block_step plus_times
returns c =
    let a = c.args in (
      c.orthonormalize.ensures ∙ ap (orthonormal a.a.n a.b)
          (c.add_multiple.ensures ∙ zip-table (λ u v. u ⊕ a.shift ⊗ v) (a.aq.now) (a.q.now) nan nan (c.requires.1 ∙ sym c.requires.0)
          ∙ ap (λ (t : List Float). plus_times a.shift t (a.q.now)) c.requires.2),
      c.matvec_block.ensures,
    )
