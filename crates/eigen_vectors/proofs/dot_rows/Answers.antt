-- `eigen_vectors::dot_rows` meets its contract. The parts lent are the rows.
use Rattle.lists.proofs.Base.{◌≡◌, ℕ, ◌+◌, ◌-◌, ◌*◌, Float, List, take, drop}
use Rattle.lists.proofs.Rows.{part-row}
use Rattle.eigen_vectors.specs.Vectors.{dot}
use Rattle.lists.specs.Rows.{row}
use Rattle.eigen_vectors.proofs.dot_rows.Goals as goal

parts-rows : (n i j : ℕ) (a b : List Float) {r : Float} → r ≡ dot (take (i * n + n - i * n) (drop (i * n) a)) (take (j * n + n - j * n) (drop (j * n) b))
    → r ≡ dot (row n i a) (row n j b)
parts-rows n i j a b e = rw (← part-row n i a, ← part-row n j b) e

pub returns : goal.returns
returns c = let a = c.args in parts-rows a.n a.i a.j (a.a.now) (a.b.now) c.dot.ensures
