-- The operation is called, and its answer laid out.
use Rattle.lists.proofs.Base.{ap, ◌∙◌}
use Rattle.lot.specs.Lot.{Lot, lot_of}
use Rattle.exhaustive_hits.specs.Call.{Slices, slices_of, exhaustive_call}
use Rattle.exhaustive_hits.proofs.Unread.{call-unread}
use Rattle.c_layouts.specs.Coded.{arrays}
use Rattle.lotjudge_c.proofs.Exports.{ways-return}
use Rattle.lotjudge_c.proofs.lotjudge_exhaustive.Goals as goal

pub returns : goal.returns
returns c =
    let a = c.args in
    let s : Slices = slices_of a.group_labels.now a.counts.now a.means.now a.pair_terms.now a.weighted_squares.now a.coords.now a.eigenpairs.now a.vectors.now a.label_counts.now in
    let all : Lot = lot_of a.n a.distances.now a.labels.now a.strata_given a.strata.now a.weights_given a.weights.now in
    ways-return c.exhaustive-r.result (arrays a.values.now a.numbers.now)
    (c.exhaustive-r.ensures ∙ ap (λ (lot : Lot). exhaustive_call lot s) c.lot_from-lot.ensures ∙ call-unread all s) c.lay_ways.ensures
