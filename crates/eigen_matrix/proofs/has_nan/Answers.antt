-- `eigen_matrix::has_nan` meets its contract. A search that stops at the first NaN.
use Rattle.std.proofs.Common.{rules}
use borrow.Author.Tests.{tests}
use Rattle.std.proofs.lemmas.Iterator.{YieldsList-from_slice}
use Rattle.lists.proofs.Chains.{any_ran}
use Rattle.eigen_matrix.proofs.has_nan.Goals as goal

pub returns : goal.returns
returns c = any_ran _ _ _ _ c.any.ensures.ran (YieldsList-from_slice c.args.d.now cc) (λ x b q k. search (rules, tests))
