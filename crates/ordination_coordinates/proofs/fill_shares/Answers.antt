-- `ordination_coordinates::fill_shares` meets its contract. The share, at each value.
use Rattle.lists.proofs.Base.{sym, ◌∙◌, ap, ℕ, get_or, nan, rules}
use Rattle.lists.specs.Ranges.{table}
use Rattle.lists.proofs.Ranges.{map-table}
use Rattle.ordination_coordinates.specs.Finish.{share_of, shares}
use Rattle.ordination_coordinates.proofs.fill_shares.Goals as goal

pub returns : goal.returns
unfolding shares
returns c =
    c.rewrite.ensures (λ i r. share_of c.args.total (get_or c.args.values.now i nan)) (λ i r s h k. search rules)
    ∙ ap (λ (n : ℕ). table n (λ i. share_of c.args.total (get_or c.args.values.now i nan))) c.requires ∙ sym (map-table (share_of c.args.total) c.args.values.now nan)
