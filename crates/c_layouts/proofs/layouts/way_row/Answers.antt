-- `c_layouts::layouts::way_row` meets its contract. As the definition lists the parts.
use Rattle.lists.proofs.Base.{◌≡◌, refl, ◌∙◌, ap, [], ◌∷◌, ℕ}
use mir.Val.{bool_byte}
use Rattle.std.specs.Prelude.{Option, Some, None}
use Rattle.std.specs.Option.{is_some}
use Rattle.exhaustive_hits.specs.WayHits.{is_given}
use Rattle.exhaustive_hits.proofs.Given.{right-or}
use Rattle.c_layouts.specs.Layouts.{is_assigned, way_row}
use Rattle.c_layouts.proofs.layouts.way_row.Goals as goal

given-byte : (a : Option ℕ) → bool_byte (is_some a) ≡ is_assigned a
unfolding is_given
given-byte None = refl
given-byte (Some r) = refl

pub returns : goal.returns
unfolding way_row
returns c =
    let j = c.args.j in
    let s = j.summary in
    let given = c.from.ensures ∙ ap bool_byte c.is_some.ensures ∙ given-byte j.assigned.statistic in
    let right = c.unwrap_or.ensures ∙ right-or j.assigned.statistic in
    λ i. record {
      values = c.value_of-f.ensures i ∷ s.r2 ∷ c.value_of-disp_f.ensures i ∷ s.informative_fraction ∷ [];
      numbers = s.n ∷ s.n_groups ∷ j.ways ∷ c.state_of.ensures i ∷ j.location.hits ∷ c.state_of-2.ensures i ∷ j.dispersion.hits ∷ given i ∷ right i ∷ j.assigned.hits ∷ c.from-2.ensures i ∷ [];
    }
