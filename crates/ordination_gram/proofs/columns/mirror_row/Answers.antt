-- `ordination_gram::columns::mirror_row` meets its contract: the loop is the one that the contract names.
use Rattle.lists.proofs.Base.{◌≡◌, refl, ap, ◌∙◌, List, ℕ, ◌+◌, ◌*◌, ◌<◌, arith, get_or, set, length-set, nan, Float}
use Rattle.lists.specs.Loops.{in_turn}
use Rattle.lists.proofs.{Loops.in_turn-none, Loops.in_turn-next, Rows.cell_below}
use Rattle.ordination_gram.proofs.columns.mirror_row.Goals as goal
use Rattle.ordination_gram.proofs.columns.mirror_row.Goals.{In-loop-j}

-- both cells lie in the matrix
inside : (c : In-loop-j) → let a = c.args in (a.i * a.n + c.loop-j.j < a.n * a.n) × (c.loop-j.j * a.n + a.i < a.n * a.n)
inside c =
    let a = c.args in
    (cell_below a.n a.n a.i c.loop-j.j (omega arith) (omega arith), cell_below a.n a.n c.loop-j.j a.i (omega arith) (omega arith))

pub loop-j-init : goal.loop-j-init
loop-j-init c = (omega arith, refl, in_turn-none (λ k l. set l (c.args.i * c.args.n + k) (get_or l (k * c.args.n + c.args.i) nan)) c.args.out.now)

pub overflow_mul-out : goal.overflow_mul-out
overflow_mul-out c = omega (arith, inside (goal.at.overflow_mul-out c).In-loop-j)

pub overflow_add-out : goal.overflow_add-out
overflow_add-out c = omega (arith, inside (goal.at.overflow_add-out c).In-loop-j)

pub offset_bounds-out-j : goal.offset_bounds-out-j
offset_bounds-out-j c = omega (arith, inside (goal.at.offset_bounds-out-j c).In-loop-j)

pub bounds-out-j : goal.bounds-out-j
bounds-out-j c = omega (arith, inside (goal.at.bounds-out-j c).In-loop-j)

pub overflow_mul-out-in-loop-j : goal.overflow_mul-out-in-loop-j
overflow_mul-out-in-loop-j c = omega (arith, inside (goal.at.overflow_mul-out-in-loop-j c).In-loop-j)

pub overflow_add-out-in-loop-j : goal.overflow_add-out-in-loop-j
overflow_add-out-in-loop-j c = omega (arith, inside (goal.at.overflow_add-out-in-loop-j c).In-loop-j)

pub offset_bounds-out-i : goal.offset_bounds-out-i
offset_bounds-out-i c = omega (arith, inside (goal.at.offset_bounds-out-i c).In-loop-j)

pub bounds-out-i : goal.bounds-out-i
bounds-out-i c = omega (arith, inside (goal.at.bounds-out-i c).In-loop-j)

pub loop-j-preserved : goal.loop-j-preserved
loop-j-preserved c =
    let here = c.loop-j in
    let a = c.args in
    let step : ℕ → List Float → List Float = λ k l. set l (a.i * a.n + k) (get_or l (k * a.n + a.i) nan) in
    (omega arith, length-set here.out _ _ ∙ here.invariant.1, in_turn-next step here.j a.out.now here.invariant.2 refl)

pub shape_of-out : goal.shape_of-out
shape_of-out c = c.loop-j.invariant.1

pub returns : goal.returns
returns c =
    let a = c.args in
    let step : ℕ → List Float → List Float = λ k l. set l (a.i * a.n + k) (get_or l (k * a.n + a.i) nan) in
    let done : c.loop-j.j ≡ a.i = omega arith in c.loop-j.invariant.2 ∙ ap (λ (j : ℕ). in_turn step j a.out.now) done
