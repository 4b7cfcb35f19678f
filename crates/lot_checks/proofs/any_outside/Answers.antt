-- `lot_checks::any_outside` meets its contract. The search is that for the first entry outside.
use Rattle.std.proofs.Common.{rules}
use Rattle.std.proofs.lemmas.Iterator.{YieldsList-from_slice}
use borrow.Author.Tests.{tests}
use Rattle.lists.proofs.Chains.{any_ran}
use Rattle.lot_checks.proofs.any_outside.Goals as goal

pub returns : goal.returns
returns c = any_ran _ _ _ _ c.any.ensures.ran (YieldsList-from_slice c.args.xs.now cc) (λ x b q k. search (rules, tests))
