-- `eigen_block::orthonormal::project_off_all` meets its contract. The invariant: the parts along the first i columns are off.
use Rattle.lists.proofs.Base.{◌+◌, ◌*◌, ℕ, ◌≤◌, ◌≡◌, ap, ◌∙◌, List, arith, length, Float}
use Rattle.lists.specs.Rows.{row}
use Rattle.lists.proofs.{Loops.in_turn-none, Loops.in_turn-next, Rows.row-end, Rows.part-row, Rows.length_part}
use Rattle.eigen_vectors.specs.Vectors.{projected_off}
use Rattle.eigen_block.proofs.Columns.{off_all}
use Rattle.eigen_block.proofs.orthonormal.project_off_all.Goals as goal
use Rattle.eigen_block.proofs.orthonormal.project_off_all.Goals.{In-loop-i}

within : (c : In-loop-i) → c.loop-i.i * c.args.n + c.args.n ≤ length c.args.q.now
within c = omega (arith, row-end c.args.n c.loop-i.i c.args.j c.loop-i-test.true, c.requires.1)

pub loop-i-init : goal.loop-i-init
loop-i-init c = in_turn-none _ _

pub slice_bounds-project_off-end : goal.slice_bounds-project_off-end
slice_bounds-project_off-end c = omega (arith, within (goal.at.slice_bounds-project_off-end c).In-loop-i)

pub project_off-requires : goal.project_off-requires
project_off-requires c =
    let a = c.args in
    omega (arith, length_part a.n c.loop-i.i (a.q.now) (within (goal.at.project_off-requires c).In-loop-i), c.requires.0)

pub loop-i-preserved : goal.loop-i-preserved
loop-i-preserved c =
    let a = c.args in
    in_turn-next (λ i. projected_off (row a.n i (a.q.now))) c.loop-i.i (a.x.now) c.loop-i.invariant
    (c.project_off.ensures ∙ ap (λ (r : List Float). projected_off r c.loop-i.x) (part-row a.n c.loop-i.i (a.q.now)))

pub returns : goal.returns
returns c =
    let a = c.args in
    let done : c.loop-i.i ≡ a.j = omega arith in
    c.loop-i.invariant ∙ ap (λ (k : ℕ). off_all a.n (a.q.now) k (a.x.now)) done
