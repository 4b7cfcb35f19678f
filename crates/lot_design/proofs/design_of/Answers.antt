-- `lot_design::design_of` meets its contract. The lot is described, and its arrays are the design's.
use Rattle.lists.proofs.Base.{refl, sym, ◌∙◌, ◌≤◌, arith, rules, length, length-take-le}
use Rattle.lot.proofs.Samples.{kept-few}
use Rattle.lot.specs.Lot.{Lot}
use Rattle.lot.specs.inner.Description.{samples_of}
use Rattle.std.specs.Prelude.{is_some}
use Rattle.lot.specs.Given.{held_by}
use Rattle.lot_design.proofs.Designs.{kept-many, designed}
use Rattle.lot_design.proofs.design_of.Goals as goal

pub slice_bounds-ss-end : goal.slice_bounds-ss-end
slice_bounds-ss-end c =
    let few-here : c.describe-shape.result.kept ≤ 256 = omega (arith, c.describe-shape.ensures.samples.many, kept-few c.args.labels.now, c.requires.few) in
    let strata-fit-here : c.describe-shape.result.kept ≤ length c.describe-shape.new.ss = omega (arith, few-here, c.describe-shape.auto.ss) in
    strata-fit-here

pub slice_bounds-informative-end : goal.slice_bounds-informative-end
slice_bounds-informative-end c =
    let few-here : c.describe-shape.result.kept ≤ 256 = omega (arith, c.describe-shape.ensures.samples.many, kept-few c.args.labels.now, c.requires.few) in
    let strata-fit-here : c.describe-shape.result.kept ≤ length c.describe-shape.new.ss = omega (arith, few-here, c.describe-shape.auto.ss) in
    sym (length-take-le _ _ strata-fit-here)

pub slice_bounds-gs-end : goal.slice_bounds-gs-end
slice_bounds-gs-end c =
    let few-here : c.describe-shape.result.kept ≤ 256 = omega (arith, c.describe-shape.ensures.samples.many, kept-few c.args.labels.now, c.requires.few) in
    let groups-fit-here : c.describe-shape.result.kept ≤ length c.describe-shape.new.gs = omega (arith, few-here, c.describe-shape.auto.gs) in
    groups-fit-here

pub slice_bounds-informative-end-2 : goal.slice_bounds-informative-end-2
slice_bounds-informative-end-2 c =
    let few-here : c.describe-shape.result.kept ≤ 256 = omega (arith, c.describe-shape.ensures.samples.many, kept-few c.args.labels.now, c.requires.few) in
    let groups-fit-here : c.describe-shape.result.kept ≤ length c.describe-shape.new.gs = omega (arith, few-here, c.describe-shape.auto.gs) in
    sym (length-take-le _ _ groups-fit-here)

pub informative-informing-requires : goal.informative-informing-requires
informative-informing-requires c =
    let few-here : c.describe-shape.result.kept ≤ 256 = omega (arith, c.describe-shape.ensures.samples.many, kept-few c.args.labels.now, c.requires.few) in
    let groups-fit-here : c.describe-shape.result.kept ≤ length c.describe-shape.new.gs = omega (arith, few-here, c.describe-shape.auto.gs) in
    let strata-fit-here : c.describe-shape.result.kept ≤ length c.describe-shape.new.ss = omega (arith, few-here, c.describe-shape.auto.ss) in
    length-take-le _ _ groups-fit-here ∙ sym (length-take-le _ _ strata-fit-here)

pub left_out-left-requires : goal.left_out-left-requires
left_out-left-requires c =
    let lot-here : Lot = let a = c.args in samples_of a.labels.now (is_some a.strata) (held_by a.strata) in
    (search rules, kept-many lot-here c.describe-shape.ensures)

pub returns : goal.returns
returns c =
    let lot-here : Lot = let a = c.args in samples_of a.labels.now (is_some a.strata) (held_by a.strata) in
    let few-here : c.describe-shape.result.kept ≤ 256 = omega (arith, c.describe-shape.ensures.samples.many, kept-few c.args.labels.now, c.requires.few) in
    let strata-fit-here : c.describe-shape.result.kept ≤ length c.describe-shape.new.ss = omega (arith, few-here, c.describe-shape.auto.ss) in
    designed lot-here c.describe-shape.ensures c.is_some.ensures (length-take-le _ _ strata-fit-here) c.informative-informing.ensures c.left_out-left.ensures refl
