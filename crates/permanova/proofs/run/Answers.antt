-- `permanova::run` meets its contract. Weights, terms and weighted squares of the design's samples, the answer over them, and both work slices are zero.
use Rattle.lists.proofs.Base.{sym, subst, ◌∙◌, ◌*◌, ℕ, take}
use Rattle.std.specs.Prelude.{is_some}
use Rattle.float.specs.Floats.{zero⁺}
use Rattle.lists.specs.Writes as writes
use Rattle.lists.proofs.Writes.{cleared-same}
use Rattle.lot.specs.{Lot.Lot, Lot.lot_of, Given.held_by, Given.lot_given}
use Rattle.lot_design.specs.inner.Designs.{Describes}
use Rattle.permanova_statistics.specs.inner.Observation.{Weighs}
use Rattle.permanova.proofs.run.Goals as goal
use Rattle.permanova.proofs.run.Goals.{After-weigh}

-- the lot, with n samples
abbrev sized : After-weigh → ℕ → Lot
sized c n = let l = c.args.lot in lot_of n l.distances.now l.labels.now (is_some l.strata) (held_by l.strata) (is_some l.weights) (held_by l.weights)

weighs : (c : After-weigh) → let k = c.args.d.kept * c.args.d.kept in
    Weighs (lot_given c.args.lot) c.args.d (take k c.weigh.new.weighted_squares) (take k c.weigh.new.pair_terms) (take c.args.d.kept c.weigh.new.w)
weighs c =
    let d = c.args.d in
    let k = d.kept * d.kept in
    let new = c.weigh.new in
    let described = subst (λ (n : ℕ). Describes (sized c n) d) (sym c.requires.all) c.requires.described in
    subst (λ (n : ℕ). Weighs (sized c n) d (take k new.weighted_squares) (take k new.pair_terms) (take d.kept new.w)) c.requires.all (c.weigh.ensures _ _ _ described)

pub returns : goal.returns
unfolding writes.cleared
returns c =
    let lot = lot_given c.args.lot in
    record {
      answers = c.answer-r.ensures lot (record { weighs = weighs (goal.at.returns c).After-weigh; weighted_as = sym c.is_some.ensures });
      pair_terms = c.fill.ensures.after (λ _ e. e) ∙ cleared-same zero⁺ c.args.pair_terms.now c.weigh.new.pair_terms c.weigh.auto.pair_terms;
      weighted_squares = c.fill-2.ensures.after (λ _ e. e) ∙ cleared-same zero⁺ c.args.weighted_squares.now c.weigh.new.weighted_squares c.weigh.auto.weighted_squares;
    }
