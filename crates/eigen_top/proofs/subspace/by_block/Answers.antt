-- `eigen_top::subspace::by_block` meets its contract. Rayleigh-Ritz on the last block.
use Rattle.lists.proofs.Base.{ap, ◌∙◌}
use Rattle.outcome.specs.Outcome.{Outcome}
use Rattle.eigen_ritz.specs.Ritz.{Pairs}
use Rattle.eigen_ritz.specs.inner.Given.{gives}
use Rattle.eigen_top.proofs.BlockPairs.{block-pairs}
use Rattle.eigen_top.proofs.subspace.by_block.Goals as goal

pub returns : goal.returns
returns c =
    let a = c.args in
    c.rayleigh_ritz.ensures ∙ ap (λ (o : Outcome Pairs). gives a.k a.a.n o a.out.now)
    (block-pairs _ _ _ _ c.last_block.ensures.0 c.last_block.ensures.1)
