-- `permanova_dispersion::values` meets its contract. The parts are the groups, so the values are theirs.
use Rattle.lists.proofs.Base.{◌∙◌, arith, rules}
use Rattle.grouping.proofs.SortedParts.{part-below}
use Rattle.permanova_location.specs.Location.{group_weight}
use Rattle.permanova_dispersion.specs.Dispersion.{inside}
use Rattle.permanova_dispersion.proofs.ValuesOnParts.{values-are}
use Rattle.permanova_dispersion.proofs.values.Goals as goal

pub fill-requires-clause-callable : goal.fill-requires-clause-callable
fill-requires-clause-callable c =
    let lens = c.requires.weighted_squares_len in
    λ k p h e few _ _ _ _ _ _ _ x less. omega (arith, lens.2, part-below _ _ _ _ _ _ c.requires.grouped.0.parts h e x less)

pub fill-requires-2-clause-callable : goal.fill-requires-2-clause-callable
fill-requires-2-clause-callable c = λ k p h e few _ _ _ _ _ _ _ _. (c.requires.weighted_squares_len.1, part-below _ _ _ _ _ _ c.requires.grouped.0.parts h e)

pub fill_values-requires : goal.fill_values-requires
fill_values-requires c =
    let lens = c.requires.weighted_squares_len in
    let parted = c.requires.grouped in (
      lens.0,
      lens.3,
      lens.4,
      parted.0.parts,
      omega (arith, c.fill.auto.out),
      omega (arith, c.fill-2.auto.out),
      parted.3,
    )

pub returns : goal.returns
returns c =
    let lens = c.requires.weighted_squares_len in
    c.fill_values.ensures ∙ values-are _ _ _ _ _ c.requires.grouped.0 _ c.args.t.now c.args.w.now c.args.gw.now c.args.gi.now
    _ _ lens.3 lens.4 (c.fill.ensures (group_weight c.args.w.now) (λ k r h e. search rules)) (c.fill-2.ensures (inside c.args.t.now c.args.m) (λ k r h e. search rules))
