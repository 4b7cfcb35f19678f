-- `eigen_vectors::products::dot_four_rows` meets its contract. The parts lent are the rows.
use Rattle.lists.proofs.Base.{◌≡◌, List, ℕ, ◌+◌, ◌-◌, ◌*◌, take, drop, Float}
use Rattle.lists.specs.Rows.{row}
use Rattle.lists.proofs.Rows.{part-row}
use Rattle.eigen_vectors.specs.inner.Vectors.{dot_four}
use Rattle.eigen_vectors.proofs.products.dot_four_rows.Goals as goal

parts-rows : (n i : ℕ) (a x : List Float) {f : List Float}
    → f ≡ dot_four (take (i * n + n - i * n) (drop (i * n) a)) (take ((i + 1) * n + n - (i + 1) * n) (drop ((i + 1) * n) a))
    (take ((i + 2) * n + n - (i + 2) * n) (drop ((i + 2) * n) a)) (take ((i + 3) * n + n - (i + 3) * n) (drop ((i + 3) * n) a)) x
    → f ≡ dot_four (row n i a) (row n (i + 1) a) (row n (i + 2) a) (row n (i + 3) a) x
parts-rows n i a x e = rw (← part-row n i a, ← part-row n (i + 1) a, ← part-row n (i + 2) a, ← part-row n (i + 3) a) e

pub returns : goal.returns
returns c = let a = c.args in parts-rows a.n a.i (a.a.now) (a.x.now) c.dot_four.ensures
