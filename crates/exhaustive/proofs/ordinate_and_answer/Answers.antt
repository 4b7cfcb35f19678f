-- `exhaustive::ordinate_and_answer` meets its contract. By what the ordination tells.
use Rattle.lists.proofs.Base.{◌∙◌}
use Rattle.float.specs.Floats.{zero⁺}
use Rattle.lists.proofs.Writes.{cleared-same}
use Rattle.lot.specs.Given.{lot_given}
use Rattle.exhaustive_hits.specs.Call.{Slices, slices_of}
use Rattle.exhaustive.proofs.PassedLines.{settled-ordinates, settled-outputs, settled-names, settled-runs}
use Rattle.exhaustive.proofs.Calls.{settled-refused, settled-answered, turned_same}
use Rattle.exhaustive.proofs.ordinate_and_answer.Goals as goal

pub ordinate-c-requires : goal.ordinate-c-requires
ordinate-c-requires c = settled-ordinates c.args.l.admits c.requires

pub refuse-requires : goal.refuse-requires
refuse-requires c = settled-outputs c.args.l.admits c.requires

pub run-j-requires : goal.run-j-requires
run-j-requires c = settled-runs c.args.l.admits c.requires c.ordinate-c.auto.coords c.ordinate-c.auto.pair_terms c.ordinate-c.auto.weighted_squares c.ordinate-c.auto.eigenpairs

pub fill_group_labels-requires : goal.fill_group_labels-requires
fill_group_labels-requires c = settled-names c.args.l.admits c.requires

pub returns-in-Err : goal.returns-in-Err
returns-in-Err c =
    let x = c.args in
    let lent : Slices = slices_of x.group_labels.now x.counts.now x.means.now x.pair_terms.now x.weighted_squares.now x.coords.now x.eigenpairs.now x.vectors.now x.label_counts.now in
    settled-refused (lot_given x.l.lot) c.ordinate-c.new.coords lent
    (slices_of x.group_labels.now x.counts.now x.means.now c.ordinate-c.new.pair_terms c.ordinate-c.new.weighted_squares
    c.ordinate-c.new.coords c.ordinate-c.new.eigenpairs c.ordinate-c.new.vectors x.label_counts.now)
    x.l.admits.described.groups_many c.in-Err.is c.ordinate-c.ensures
    (turned_same x.l.design.groups _ x.group_labels.now x.counts.now x.means.now x.pair_terms.now x.weighted_squares.now
    x.coords.now x.eigenpairs.now x.vectors.now x.label_counts.now
    c.ordinate-c.new.pair_terms c.ordinate-c.new.weighted_squares
    c.ordinate-c.new.coords c.ordinate-c.new.eigenpairs c.ordinate-c.new.vectors
    c.ordinate-c.auto.pair_terms c.ordinate-c.auto.weighted_squares c.ordinate-c.auto.coords c.ordinate-c.auto.eigenpairs c.ordinate-c.auto.vectors)
    c.refuse.ensures

pub returns-in-Ok : goal.returns-in-Ok
returns-in-Ok c =
    let x = c.args in
    let lent : Slices = slices_of x.group_labels.now x.counts.now x.means.now x.pair_terms.now x.weighted_squares.now x.coords.now x.eigenpairs.now x.vectors.now x.label_counts.now in
    let e = c.clear_work.ensures in
    settled-answered (lot_given x.l.lot) c.ordinate-c.new.coords lent
    x.l.admits.described c.in-Ok.is c.ordinate-c.ensures c.run-j.ensures c.fill_group_labels.ensures
    (e.0 ∙ cleared-same zero⁺ x.pair_terms.now _ (c.run-j.auto.pair_terms ∙ c.ordinate-c.auto.pair_terms))
    (e.1 ∙ cleared-same zero⁺ x.weighted_squares.now _ (c.run-j.auto.weighted_squares ∙ c.ordinate-c.auto.weighted_squares))
    (e.2 ∙ cleared-same zero⁺ x.coords.now _ c.ordinate-c.auto.coords) (e.3 ∙ cleared-same zero⁺ x.eigenpairs.now _ (c.run-j.auto.scores ∙ c.ordinate-c.auto.eigenpairs))
    (e.4 ∙ cleared-same zero⁺ x.vectors.now _ c.ordinate-c.auto.vectors) (e.5 ∙ cleared-same 0 x.label_counts.now _ c.run-j.auto.label_counts)
