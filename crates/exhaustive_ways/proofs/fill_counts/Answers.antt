-- `exhaustive_ways::fill_counts` meets its contract: the rows count the samples that were passed.
use Rattle.std.proofs.lemmas.List.{length_push}
use Rattle.std.proofs.lemmas.Slice.Zip.{zip_turn, zip_end}
use Rattle.lists.proofs.Base.{◌≡◌, refl, ◌∙◌, ◌<◌, arith, length, get_or}
use Rattle.exhaustive_ways.proofs.CountsLeft.{filling-none, filling-place, filling-small, filling-next, filling-all}
use Rattle.exhaustive_ways.proofs.fill_counts.Goals as goal
use Rattle.exhaustive_ways.proofs.fill_counts.Goals.{In-Some}

-- the sample of this turn: its place, its stratum and its label
sample : (c : In-Some) → let k = length c.loop-s.yielded in
    (k < length c.args.strata.now) × (c.in-Some.s.now ≡ get_or c.args.strata.now k 0) × (c.in-Some.j.now ≡ get_or c.args.groups.now k 0)
sample c =
    let a = c.args in
    let t = zip_turn a.strata.now a.groups.now c.loop-s.yielded c.into_iter-s-iterator.result c.loop-s.s-iterator c.next.new.self _ (cc) (cc) c.loop-s.yielded_by _ c.in-Some.is c.next.ensures.steps in
    (t.0, t.2 0, t.3 0)

pub loop-s-init : goal.loop-s-init
loop-s-init c = filling-none _ _ _ _ c.requires.sized c.requires.below c.requires.rows c.requires.zeros

pub overflow_mul-place : goal.overflow_mul-place
overflow_mul-place c =
    let t = sample (goal.at.overflow_mul-place c).In-Some in
    let in_row = filling-place c.loop-s.invariant t.0 (c.from.ensures ∙ t.1) refl in omega arith

pub overflow_add-place : goal.overflow_add-place
overflow_add-place c =
    let t = sample (goal.at.overflow_add-place c).In-Some in
    let in_row = filling-place c.loop-s.invariant t.0 (c.from.ensures ∙ t.1) (c.from-in-loop-s.ensures ∙ t.2) in omega arith

pub offset_bounds-counts-place : goal.offset_bounds-counts-place
offset_bounds-counts-place c =
    let t = sample (goal.at.offset_bounds-counts-place c).In-Some in
    let in_row = filling-place c.loop-s.invariant t.0 (c.from.ensures ∙ t.1) (c.from-in-loop-s.ensures ∙ t.2) in omega arith

pub bounds-counts-place : goal.bounds-counts-place
bounds-counts-place c =
    let t = sample (goal.at.bounds-counts-place c).In-Some in
    let in_row = filling-place c.loop-s.invariant t.0 (c.from.ensures ∙ t.1) (c.from-in-loop-s.ensures ∙ t.2) in omega (arith, c.loop-s.invariant.long)

pub overflow_add-counts : goal.overflow_add-counts
overflow_add-counts c =
    let t = sample (goal.at.overflow_add-counts c).In-Some in
    let in_row = filling-place c.loop-s.invariant t.0 (c.from.ensures ∙ t.1) (c.from-in-loop-s.ensures ∙ t.2) in
    omega (arith, filling-small c.loop-s.invariant _ in_row, c.requires.few)

pub bounds-counts-place-in-loop-s : goal.bounds-counts-place-in-loop-s
bounds-counts-place-in-loop-s c =
    let t = sample (goal.at.bounds-counts-place-in-loop-s c).In-Some in
    let in_row = filling-place c.loop-s.invariant t.0 (c.from.ensures ∙ t.1) (c.from-in-loop-s.ensures ∙ t.2) in omega (arith, c.loop-s.invariant.long)

pub loop-s-preserved : goal.loop-s-preserved
loop-s-preserved c =
    let t = sample (goal.at.loop-s-preserved c).In-Some in
    filling-next c.loop-s.invariant t.0 (c.from.ensures ∙ t.1) (c.from-in-loop-s.ensures ∙ t.2) (length_push c.loop-s.yielded _)

pub shape_of-counts : goal.shape_of-counts
shape_of-counts c = c.loop-s.invariant.long

pub returns : goal.returns
returns c =
    let a = c.args in
    let t = zip_end a.strata.now a.groups.now c.loop-s.yielded c.into_iter-s-iterator.result c.loop-s.s-iterator c.next.new.self _ (cc) (cc) c.loop-s.yielded_by c.in-None.is c.next.ensures.steps in
    filling-all c.loop-s.invariant (omega (arith, t, c.requires.sized))
