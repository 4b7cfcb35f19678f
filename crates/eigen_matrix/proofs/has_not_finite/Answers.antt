-- `eigen_matrix::has_not_finite` meets its contract. A search that stops at the first entry that is not finite.
use Rattle.std.proofs.Common.{rules}
use borrow.Author.Tests.{tests}
use Rattle.std.proofs.lemmas.Iterator.{YieldsList-from_slice}
use Rattle.lists.proofs.Chains.{any_ran}
use Rattle.eigen_matrix.proofs.has_not_finite.Goals as goal

pub returns : goal.returns
returns c = any_ran _ _ _ _ c.any.ensures.ran (YieldsList-from_slice c.args.a.now cc) (λ x b q k. search (rules, tests))
