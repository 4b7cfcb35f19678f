-- `ordination_coordinates::gower::fill_squares` meets its contract. The square, at each distance.
use Rattle.lists.proofs.Base.{sym, ◌∙◌, ap, ℕ, Float, get_or, nan, rules}
use Rattle.float.specs.Floats.{◌⊗◌}
use Rattle.lists.specs.Ranges.{table}
use Rattle.lists.proofs.Ranges.{map-table}
use Rattle.ordination_coordinates.specs.Centred.{squares}
use Rattle.ordination_coordinates.proofs.gower.fill_squares.Goals as goal

pub returns : goal.returns
unfolding squares
returns c =
    c.rewrite.ensures (λ i r. get_or c.args.d.now i nan ⊗ get_or c.args.d.now i nan) (λ i r s h k. search rules)
    ∙ ap (λ (n : ℕ). table n (λ i. get_or c.args.d.now i nan ⊗ get_or c.args.d.now i nan)) c.requires ∙ sym (map-table (λ (x : Float). x ⊗ x) c.args.d.now nan)
