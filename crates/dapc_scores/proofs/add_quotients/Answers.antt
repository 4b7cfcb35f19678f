-- `dapc_scores::add_quotients` meets its contract. Each entry is rewritten by the closure.
use Rattle.std.proofs.Common.{rules}
use Rattle.lists.proofs.Base.{get_or, nan}
use Rattle.float.specs.Floats.{◌⊕◌, ◌⊘◌}
use Rattle.dapc_scores.proofs.add_quotients.Goals as goal

pub returns : goal.returns
returns c = let a = c.args in c.rewrite.ensures (λ i r. r ⊕ get_or a.other.now i nan ⊘ a.by) (λ i r s h k. search rules)
