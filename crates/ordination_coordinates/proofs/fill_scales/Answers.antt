-- `ordination_coordinates::fill_scales` meets its contract. The scale, at each value.
use Rattle.lists.proofs.Base.{sym, ◌∙◌, ap, ℕ, get_or, nan, rules}
use Rattle.lists.specs.Ranges.{table}
use Rattle.lists.proofs.Ranges.{map-table}
use Rattle.ordination_coordinates.specs.Finish.{scale_of, scales}
use Rattle.ordination_coordinates.proofs.fill_scales.Goals as goal

pub returns : goal.returns
unfolding scales
returns c =
    c.rewrite.ensures (λ i r. scale_of (get_or c.args.values.now i nan)) (λ i r s h k. search rules)
    ∙ ap (λ (n : ℕ). table n (λ i. scale_of (get_or c.args.values.now i nan))) c.requires ∙ sym (map-table scale_of c.args.values.now nan)
