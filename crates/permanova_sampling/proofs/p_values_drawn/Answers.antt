-- `permanova_sampling::p_values_drawn` meets its contract. The hits of the shuffles are few enough, and p of both follows.
use Rattle.lists.proofs.Base.{ap, arith, ℕ}
use Rattle.permanova_p_values.specs.declared.Both.{Both}
use Rattle.permanova_sampling.specs.inner.Drawn.{hits_among, drawn}
use Rattle.permanova_p_values.proofs.PValueCases.{hits_few}
use Rattle.permanova_sampling.proofs.SampledAnswers.{both-are}
use Rattle.permanova_sampling.proofs.p_values_drawn.Goals as goal

pub p_value_of-requires : goal.p_value_of-requires
unfolding drawn hits_among
p_value_of-requires c =
    let few = hits_few _ c.args.draws.many (ap (λ (h : Both ℕ). h.location) c.draw-h.ensures) in (omega (arith, few, c.requires.1), c.requires.1)

pub p_value_of-requires-2 : goal.p_value_of-requires-2
unfolding drawn hits_among
p_value_of-requires-2 c =
    let few = hits_few _ c.args.draws.many (ap (λ (h : Both ℕ). h.dispersion) c.draw-h.ensures) in (omega (arith, few, c.requires.1), c.requires.1)

pub returns : goal.returns
returns c = both-are _ _ _ c.draw-h.ensures c.p_value_of.ensures c.p_value_of-2.ensures
