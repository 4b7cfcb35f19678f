-- `eigen_vectors::products::matvec_block` meets its contract. Each column by the closure's rule.
use Rattle.lists.proofs.Base.{◌*◌, ◌+◌, ◌-◌, ◌≤◌, take, drop, ◌≡◌, ℕ, ap, ◌∙◌, List, arith, length, rules, Float}
use Rattle.lists.specs.Rows.{row as row_of}
use Rattle.lists.proofs.{Ranges.length-table, Rows.row-end, Rows.part-row, Rows.length_part}
use Rattle.eigen_vectors.specs.{Vectors.dot, Products.times, Products.times_block}
use Rattle.eigen_vectors.proofs.products.matvec_block.Goals as goal

long-times : (n : ℕ) (a x : List Float) → length (times n a x) ≡ n
unfolding times
long-times n a x = length-table (λ i. dot (row_of n i a) x) n

pub fill_rows-requires-clause-may : goal.fill_rows-requires-clause-may
fill_rows-requires-clause-may c = λ i row h long.
    let a = c.args in
    let within : i * a.a.n + a.a.n ≤ length a.q.now = omega (arith, row-end a.a.n i a.b h, c.requires.1) in
    let part = length_part a.a.n i a.q.now within in
    search rules

pub returns : goal.returns
unfolding times_block
returns c =
    let a = c.args in
    c.fill_rows.ensures (λ i. times a.a.n a.a.entries.now (row_of a.a.n i a.q.now)) (λ i. long-times a.a.n a.a.entries.now (row_of a.a.n i a.q.now))
    (λ i row filled h long gives.
    let n = a.a.n in
    let e : filled.now ≡ times n a.a.entries.now (take (i * n + n - i * n) (drop (i * n) a.q.now)) = search rules in
    e ∙ ap (times n a.a.entries.now) (part-row n i a.q.now))
