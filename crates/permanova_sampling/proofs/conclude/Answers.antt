-- `permanova_sampling::conclude` meets its contract. Bits 5 and 6 are few enough, and the parts are the lot's.
use Rattle.lists.proofs.Base.{refl, arith}
use Rattle.permanova_sampling.proofs.SampledAnswers.{together-few, concluded}
use Rattle.permanova_sampling.proofs.conclude.Goals as goal

pub summarise-summary-requires : goal.summarise-summary-requires
summarise-summary-requires c = (c.requires, omega (arith, together-few _ _ _ c.together_of-more.ensures))

pub returns : goal.returns
returns c lot seed n e = concluded lot seed n e c.together_of-more.ensures (c.summarise-summary.ensures lot e.described e.observed e.sizes) refl refl
