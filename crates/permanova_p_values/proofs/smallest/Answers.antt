-- `permanova_p_values::smallest` meets its contract. As `min` picks it from the first on.
use Rattle.lists.proofs.Base.{ap, sym, ◌∙◌}
use Rattle.std.specs.Prelude.{unwrap_or}
use Rattle.std.proofs.lemmas.Iterator.{YieldsList-from_slice}
use Rattle.std.proofs.lemmas.Iterator.Consumers.{YieldsList-from_copied, min_from_yields_List}
use Rattle.std.proofs.lemmas.Iterator.Adapters.{option_map_id}
use Rattle.permanova_p_values.proofs.JointWarnings.{smallest-reduce}
use Rattle.permanova_p_values.proofs.smallest.Goals as goal

pub returns : goal.returns
returns c =
    let gives = YieldsList-from_copied {s = c.copied.result} (YieldsList-from_slice c.args.sizes.now (cc)) in
    let picks = sym (option_map_id c.min.result) ∙ min_from_yields_List _ _ c.min.ensures.ran gives in
    c.unwrap_or.ensures ∙ ap (λ o. unwrap_or o 0) picks ∙ smallest-reduce c.args.sizes.now
