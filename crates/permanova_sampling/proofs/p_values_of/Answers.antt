-- `permanova_sampling::p_values_of` meets its contract. Where neither can have a p the hits tell nothing; else both follow from them.
use Rattle.permanova_sampling.proofs.SampledAnswers.{neither-has, p-values-are}
use Rattle.permanova_sampling.proofs.p_values_of.Goals as goal

pub returns-then-neither : goal.returns-then-neither
returns-then-neither c lot e =
    p-values-are lot c.args.draws e c.statistic_of.ensures c.statistic_of-2.ensures c.uninformed-none.ensures
    (neither-has _ _ _ _ c.neither.ensures c.if-neither.true)

pub returns : goal.returns
returns c lot e =
    p-values-are lot c.args.draws e c.statistic_of.ensures c.statistic_of-2.ensures c.uninformed-none.ensures
    c.p_values_drawn.ensures
