-- `exhaustive::run` meets its contract. The samples are weighed, and the lot is judged by the coordinates that stand in the slice.
use Rattle.lists.proofs.Base.{◌≡◌, sym, refl, ◌*◌, ◌≤◌, mul-le-mul, arith, length, length-take-le}
use Rattle.exhaustive_answer.proofs.LentCoordinates.{part-coords}
use Rattle.exhaustive.proofs.{PassedLines.admits-sound, PassedLines.admits-labelled, PassedLines.square-fits, PassedLines.runs-weighs, PassedLines.lot-weighs, PassedLines.runs-judges, Calls.moved-judges}
use Rattle.exhaustive.proofs.run.Goals as goal

pub overflow_mul-q : goal.overflow_mul-q
overflow_mul-q c =
    let few = (admits-sound c.args.l.admits).few in
    let square = mul-le-mul {n₁ = c.args.l.design.kept} {m₁ = c.args.l.design.kept} {n₂ = 256} {m₂ = 256} few few in
    omega (arith, square)

pub weigh-requires : goal.weigh-requires
weigh-requires c = runs-weighs c.args.l.admits c.requires

pub slice_bounds-answer-end : goal.slice_bounds-answer-end
slice_bounds-answer-end c = omega (arith, (square-fits c.args.l.admits c.requires).1, c.weigh.auto.weighted_squares)

pub slice_bounds-answer-end-2 : goal.slice_bounds-answer-end-2
slice_bounds-answer-end-2 c =
    let fits : c.args.l.design.kept * c.args.l.design.kept ≤ length c.weigh.new.weighted_squares = omega (arith, (square-fits c.args.l.admits c.requires).1, c.weigh.auto.weighted_squares) in
    sym (length-take-le _ _ fits)

pub slice_bounds-answer-end-3 : goal.slice_bounds-answer-end-3
slice_bounds-answer-end-3 c = omega (arith, (square-fits c.args.l.admits c.requires).0, c.weigh.auto.pair_terms)

pub slice_bounds-answer-end-4 : goal.slice_bounds-answer-end-4
slice_bounds-answer-end-4 c =
    let fits : c.args.l.design.kept * c.args.l.design.kept ≤ length c.weigh.new.pair_terms = omega (arith, (square-fits c.args.l.admits c.requires).0, c.weigh.auto.pair_terms) in
    sym (length-take-le _ _ fits)

pub slice_bounds-w-end : goal.slice_bounds-w-end
slice_bounds-w-end c = let long : length c.weigh.new.w ≡ 256 = c.weigh.auto.w in omega (arith, (admits-sound c.args.l.admits).few)

pub slice_bounds-answer-end-5 : goal.slice_bounds-answer-end-5
slice_bounds-answer-end-5 c =
    let fits : c.args.l.design.kept ≤ length c.weigh.new.w = let long : length c.weigh.new.w ≡ 256 = c.weigh.auto.w in omega (arith, (admits-sound c.args.l.admits).few) in
    sym (length-take-le _ _ fits)

pub answer-requires : goal.answer-requires
answer-requires c =
    runs-judges c.args.l.admits c.requires c.args.coords.now refl (lot-weighs c.args.l.admits c.requires c.weigh.ensures) (part-coords c.args.l.lot.n c.args.coords.now c.components_used-k.ensures)

pub returns : goal.returns
returns c =
    let a = c.args.l.admits in
    moved-judges (part-coords c.args.l.lot.n c.args.coords.now c.components_used-k.ensures)
    (c.answer.ensures _ (record { weighs = lot-weighs a c.requires c.weigh.ensures; labelled = admits-labelled a }))
