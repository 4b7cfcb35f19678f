-- `eigen_vectors::products::last_products` meets its contract. The entries up to i are written.
use Rattle.lists.proofs.Base.{◌≡◌, ap, ◌∙◌, List, ℕ, arith, set, Float}
use Rattle.lists.specs.{Rows.row, Loops.from_to}
use Rattle.lists.proofs.{Rows.part-row, Loops.from_to-none, Loops.from_to-next}
use Rattle.eigen_vectors.specs.Vectors.{dot}
use Rattle.eigen_vectors.proofs.products.last_products.Goals as goal

pub loop-i-init : goal.loop-i-init
loop-i-init c = (omega arith, c.requires.3, from_to-none _ _ _)

pub loop-i-preserved : goal.loop-i-preserved
loop-i-preserved c =
    let a = c.args in
    let turn = c.loop-i in (
      omega arith,
      omega arith,
      from_to-next (λ k t. set t k (dot (row a.n k a.a.now) a.x.now)) a.from turn.i a.y.now turn.invariant.0 turn.invariant.2
          (ap (set turn.y turn.i) (c.dot.ensures ∙ ap (λ (r : List Float). dot r a.x.now) (part-row a.n turn.i a.a.now))),
    )

pub returns : goal.returns
returns c =
    let a = c.args in
    let done : c.loop-i.i ≡ a.n = omega arith in
    c.loop-i.invariant.2 ∙ ap (λ (i : ℕ). from_to (λ k t. set t k (dot (row a.n k a.a.now) a.x.now)) a.from i a.y.now) done
