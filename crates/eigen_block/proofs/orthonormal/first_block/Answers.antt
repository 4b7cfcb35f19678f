-- `eigen_block::orthonormal::first_block` meets its contract. What is drawn, made orthonormal.
use Rattle.lists.proofs.Base.{ap, ◌∙◌, ℕ, map}
use Rattle.eigen_block.specs.Orthonormal.{orthonormal, states, first_block}
use Rattle.splitmix.specs.SplitMix.{uniform}
use Rattle.eigen_block.proofs.orthonormal.first_block.Goals as goal

pub returns : goal.returns
unfolding first_block
returns c =
    c.orthonormalize.ensures
    ∙ ap (orthonormal c.args.n c.args.b) (c.draw.ensures ∙ ap (λ (k : ℕ). map uniform (states k 0xc0ffee)) c.requires.1)
