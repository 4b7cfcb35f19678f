-- The operation is called, and its answer laid out.
use Rattle.lists.proofs.Base.{ap, ◌∙◌}
use Rattle.lot.specs.Lot.{Lot, lot_of}
use Rattle.permanova.specs.Call.{Slices, slices_of, test_call}
use Rattle.c_layouts.specs.Coded.{arrays}
use Rattle.lotjudge_c.proofs.{Exports.test-returns, Unread.test-unread}
use Rattle.lotjudge_c.proofs.lotjudge_test.Goals as goal

pub returns : goal.returns
returns c =
    let a = c.args in
    let s : Slices = slices_of a.group_labels.now a.counts.now a.means.now a.pair_terms.now a.weighted_squares.now in
    let all : Lot = lot_of a.n a.distances.now a.labels.now a.strata_given a.strata.now a.weights_given a.weights.now in
    test-returns c.test-r.result (arrays a.values.now a.numbers.now)
    (c.test-r.ensures ∙ ap (λ (lot : Lot). test_call lot a.seed a.n_perm s) c.lot_from-lot.ensures ∙ test-unread all a.seed a.n_perm s) c.lay_test.ensures
