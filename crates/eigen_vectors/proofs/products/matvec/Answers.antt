-- `eigen_vectors::products::matvec` meets its contract. The invariant: the first 4 k entries are written.
use Rattle.lists.proofs.Base.{◌∙◌, ℕ, arith, Float}
use Rattle.lists.specs.Rows.{row}
use Rattle.lists.proofs.{Writes.writing-none, Writes.writing-table}
use Rattle.eigen_vectors.specs.{Vectors.dot, Products.times}
use Rattle.eigen_vectors.proofs.ProductsEntries.{writing-four, writing-from}
use Rattle.eigen_vectors.proofs.products.matvec.Goals as goal

pub loop-k-init : goal.loop-k-init
loop-k-init c = writing-none _ _

pub loop-k-preserved : goal.loop-k-preserved
loop-k-preserved c =
    let a = c.args in
    writing-four (λ i. dot (row a.a.n i a.a.entries.now) a.x.now) a.y.now c.loop-k.invariant (omega arith) (omega (arith, c.requires.0))
    (c.copy_from_slice.ensures.after ∙ c.dot_four_rows.ensures)

pub returns : goal.returns
unfolding times
returns c =
    let a = c.args in
    let f : ℕ → Float = λ i. dot (row a.a.n i a.a.entries.now) a.x.now in
    let written = writing-from f a.y.now c.loop-k.invariant (omega arith) (omega arith) (omega (arith, c.requires.0)) c.last_products.ensures in
    writing-table f a.y.now written c.requires.0 (omega arith)
