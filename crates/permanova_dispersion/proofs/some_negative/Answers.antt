-- `permanova_dispersion::some_negative` meets its contract. The chain asks each value.
use Rattle.std.proofs.Common.{rules}
use borrow.Author.Tests.{tests}
use Rattle.std.proofs.lemmas.Iterator.{YieldsList-from_slice}
use Rattle.lists.proofs.Chains.{any_ran}
use Rattle.permanova_dispersion.proofs.some_negative.Goals as goal

pub returns : goal.returns
returns c = any_ran _ _ _ _ c.any.ensures.ran (YieldsList-from_slice c.args.v.now c.iter.ensures.rest) (λ x b q k. search (rules, tests))
