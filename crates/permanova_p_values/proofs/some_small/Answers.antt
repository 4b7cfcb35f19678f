-- `permanova_p_values::some_small` meets its contract. Whether any is below 5.
use Rattle.std.proofs.Common.{rules}
use borrow.Author.Tests.{tests}
use Rattle.std.proofs.lemmas.Iterator.{YieldsList-from_slice}
use Rattle.lists.proofs.Chains.{any_ran}
use Rattle.permanova_p_values.proofs.some_small.Goals as goal

pub returns : goal.returns
returns c = any_ran _ _ _ _ c.any.ensures.ran (YieldsList-from_slice c.args.sizes.now cc) (λ x b q k. search (rules, tests))
