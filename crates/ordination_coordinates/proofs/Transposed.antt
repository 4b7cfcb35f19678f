-- The transposed matrix: the lines of `pcoa` say the same of it, and where they pass its coordinates are the same, since distances enter them by their
-- squares alone.
use Rattle.lists.proofs.Base.{◌≡◌, ◌||◌, List, ◌++◌, ℕ, ◌*◌, min, length, Float}
use Rattle.lists.specs.Ranges.{grid}
use Rattle.outcome.specs.{Outcome.passed, Refusals.first, Refusals.unfit}
use Rattle.outcome.proofs.Table.{first-both}
use Rattle.lot.specs.{Mirror.transposed, Lines.size_lines, Lines.matrix_lines}
use Rattle.lot.proofs.AcceptedLots.{matrix-known}
use Rattle.lot.proofs.Transposed.{SameSquares, length-transposed, squares-transposed, matrix-transposed}
use Rattle.ordination_coordinates.specs.Centred.{squares, mean, row_means, centred_at, centred}
use Rattle.ordination_coordinates.specs.{Pcoa.ordinate, Pcoa.pcoa, Lengths.too_short, Lines.bad_components, Lines.few_lines, Lines.pcoa_lines}

pub same-pcoa : (components n : ℕ) (e d : List Float) → SameSquares e d → pcoa components n e ≡ pcoa components n d
unfolding pcoa centred squares
same-pcoa components n e d same = λ i. ordinate components n (grid n n (centred_at n (same i) (row_means n (same i)) (mean n (row_means n (same i)))))

module _ (components n : ℕ) (d : List Float) (out b w m v : ℕ) (long : length d ≡ n * n) where
  fit-transposed : unfit (transposed n d) (n * n) ≡ unfit d (n * n)
  fit-transposed = rw (length-transposed, long)

  pub pcoa-lines-transposed : pcoa_lines components n (transposed n d) out b w m v ≡ pcoa_lines components n d out b w m v
  unfolding pcoa_lines
  pcoa-lines-transposed = λ i. size_lines (fit-transposed i || too_short (min components n) n out b w m v) n (bad_components components)
      ++ matrix-transposed n d long i ++ few_lines n

  pub pcoa-accepted-transposed : first (pcoa_lines components n d out b w m v) ≡ passed → pcoa components n (transposed n d) ≡ pcoa components n d
  unfolding pcoa_lines
  pcoa-accepted-transposed e =
      let misfit = unfit d (n * n) || too_short (min components n) n out b w m v in
      let rest = (first-both (size_lines misfit n (bad_components components)) (matrix_lines n d ++ few_lines n) e).1 in
      let matrix = (first-both (matrix_lines n d) (few_lines n) rest).0 in
      same-pcoa components n (transposed n d) d (squares-transposed n d long (matrix-known n d matrix).mirrors)
